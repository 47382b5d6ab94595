-- A bridge: what the reader keeps of a number's parts.
use Rattle.std.specs.Prelude.{◌≡◌, ℕ, ◌+◌, ◌<◌, ◌⊎◌, Bool, List, [], length, ℤ, IsTrue}
use Rattle.crs_decimal.specs.declared.cutting.Spelled.{Spelled}
use Rattle.crs_decimal.specs.Numbers.{is_minus, is_below, exponent_digits, Parts, mantissa, fraction_digits, AreDigits, is_power, up_of, down_of}
use Rattle.crs_decimal.specs.inner.Mantissa.{no_digits, with_digits}
use Rattle.crs_decimal.specs.inner.Split.{exponent_of, behind_exponent, HasExponentDigits}

-- the bytes are an exponent that has digits, or none
abbrev pub IsExponentWhole : List ℕ → Type 0
IsExponentWhole bytes = (behind_exponent bytes ≡ []) × HasExponentDigits (exponent_of bytes)

-- the reader keeps this of the exponent in front of the bytes
pub record IsExponentCut (bytes : List ℕ) (below : Bool) (digits : List ℕ) : Type 0 where
  pub below_is : below ≡ is_below (exponent_of bytes)
  pub are_those : digits ≡ exponent_digits (exponent_of bytes)
  pub are_digits : AreDigits digits

-- the reader keeps this of the parts
pub record IsCut (p : Parts) (s : Spelled) : Type 0 where
  pub negative : s.negative ≡ is_minus p.sign
  pub digits : s.mantissa ≡ with_digits no_digits (mantissa p)
  pub count : s.count ≡ length (mantissa p)
  pub fraction_digits : s.fraction ≡ length (fraction_digits p.fraction)
  pub below : s.below ≡ is_below p.exponent
  pub exponent_digits : s.exponent.now ≡ exponent_digits p.exponent

-- two powers are more than 40 apart
abbrev pub IsFar : ℕ → ℕ → Type 0
IsFar up down = (up + 40 < down) ⊎ (down + 40 < up)

-- ten to the power is 10^up / 10^down, and the power is in bounds
abbrev pub IsPowerBetween : ℕ → ℕ → ℤ → Type 0
IsPowerBetween up down power = IsTrue (is_power power) × (up_of power + down ≡ down_of power + up)
