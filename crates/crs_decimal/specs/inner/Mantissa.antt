-- A bridge: the mantissa as it is read, digit by digit, with its closing zeros counted apart.
use Rattle.std.specs.Prelude.{ℕ, ◌+◌, ◌-◌, ◌*◌, ◌^◌, ◌==◌, nat_lt, Bool, true, false, if◌then◌else◌, List, fold}
use Rattle.crs_decimal.specs.declared.mantissa.Mantissa.{Mantissa}

-- the mantissa before its first digit
abbrev pub no_digits : Mantissa
no_digits = record { digits = 0; zeros = 0; is_long = false }

-- digits * 10^zeros, if that has at most 38 digits
abbrev pub fits : ℕ → ℕ → Bool
fits digits zeros = nat_lt (digits * 10 ^ zeros) (10 ^ 38)

-- one more digit after the mantissa; a mantissa that doesn't fit is marked as long
abbrev pub with_digit : Mantissa → ℕ → Mantissa
with_digit m d =
    if d == 0 then (if m.digits == 0 then m else record m { zeros = m.zeros + 1 })
    else (if fits m.digits (m.zeros + 1)
    then record m { digits = m.digits * 10 ^ (m.zeros + 1) + d; zeros = 0 }
    else record m { is_long = true })

-- the digits after the mantissa, one after another
abbrev pub with_digits : Mantissa → List ℕ → Mantissa
with_digits m ds = fold (λ n d. with_digit n (d - 48)) m ds
