-- A bridge: runs that are passed over sixteen bytes at a time.
use Rattle.std.specs.Prelude.{◌≡◌, ℕ, ◌==◌, ◌&&◌, Bool, if◌then◌else◌, List, ◌∷◌, ◌++◌, drop, length, Option, [], IsTrue, not}
use Rattle.std.specs.Int.{w64, trailing_zeros}
use Rattle.std.specs.Char.{is_ascii}
use Rattle.crs_decimal.specs.Numbers.{Sign, sign_text, fraction_text, fraction_digits, AreDigits, is_digit, is_run_byte}
use Rattle.crs_text.specs.Tokens.{StopsAt, is_quote}

-- a byte that isn't a quote
abbrev pub is_plain : ℕ → Bool
is_plain b = not (is_quote b)

-- an ASCII byte that isn't a quote
abbrev pub is_plain_ascii : ℕ → Bool
is_plain_ascii b = is_plain b && is_ascii b

-- how many of sixteen lanes come before the first that is set
abbrev pub first_set : ℕ → ℕ
first_set lanes = if lanes == 0 then 16 else trailing_zeros w64 lanes

-- a digit comes first, and then no byte of a number
abbrev pub IsOneDigit : List ℕ → Type 0
IsOneDigit [] = ⊥
IsOneDigit (b ∷ rest) = IsTrue (is_digit b) × StopsAt is_run_byte rest

-- a sign of so many bytes comes first; it has none where none is written
abbrev pub IsSigned : List ℕ → ℕ → Type 0
IsSigned left n = (sign : Sign) × (left ≡ sign_text sign ++ drop n left) × (n ≡ length (sign_text sign))

-- a fraction of so many bytes comes first; it has none where none is written
abbrev pub IsFractional : List ℕ → ℕ → Type 0
IsFractional left n =
    (fraction : Option (List ℕ)) × (left ≡ fraction_text fraction ++ drop n left)
    × AreDigits (fraction_digits fraction) × (n ≡ length (fraction_text fraction))
