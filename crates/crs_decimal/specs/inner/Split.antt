-- A bridge: bytes cut into the parts of a number as far as they go, and what is left after them.
use Rattle.std.specs.Prelude.{◌≡◌, ℕ, ◌<◌, ◌==◌, ◌||◌, Bool, if◌then◌else◌, List, [], ◌∷◌, length, take, drop, Option, Some, None}
use Rattle.std.specs.List.{prefix_len}
use Rattle.crs_decimal.specs.Numbers.{Sign, unsigned, plus, minus, Exponent, Parts, is_digit, mantissa}

-- the digits in front
abbrev pub leading_digits : List ℕ → List ℕ
leading_digits bytes = take (prefix_len is_digit bytes) bytes

-- what follows the digits in front
abbrev pub behind_digits : List ℕ → List ℕ
behind_digits bytes = drop (prefix_len is_digit bytes) bytes

-- the sign in front
abbrev pub sign_of : List ℕ → Sign
sign_of [] = unsigned
sign_of (b ∷ bytes) = if b == 43 then plus else (if b == 45 then minus else unsigned)

-- what follows the sign in front
abbrev pub behind_sign : List ℕ → List ℕ
behind_sign [] = []
behind_sign (b ∷ bytes) = if b == 43 || b == 45 then bytes else b ∷ bytes

-- the period and the digits in front
abbrev pub fraction_of : List ℕ → Option (List ℕ)
fraction_of [] = None
fraction_of (b ∷ bytes) = if b == 46 then Some (leading_digits bytes) else None

-- what follows the period and the digits in front
abbrev pub behind_fraction : List ℕ → List ℕ
behind_fraction [] = []
behind_fraction (b ∷ bytes) = if b == 46 then behind_digits bytes else b ∷ bytes

-- the letter of an exponent, E or e
abbrev pub is_exponent_letter : ℕ → Bool
is_exponent_letter b = b == 69 || b == 101

-- the exponent in front, perhaps without digits
abbrev pub exponent_of : List ℕ → Option Exponent
exponent_of [] = None
exponent_of (b ∷ bytes) =
    if is_exponent_letter b
    then Some (record { letter = b; sign = sign_of bytes; digits = leading_digits (behind_sign bytes) }) else None

-- what follows the exponent in front
abbrev pub behind_exponent : List ℕ → List ℕ
behind_exponent [] = []
behind_exponent (b ∷ bytes) = if is_exponent_letter b then behind_digits (behind_sign bytes) else b ∷ bytes

-- what follows the sign and the digits in front
abbrev pub behind_whole : List ℕ → List ℕ
behind_whole bytes = behind_digits (behind_sign bytes)

-- what follows the mantissa in front
abbrev pub behind_mantissa : List ℕ → List ℕ
behind_mantissa bytes = behind_fraction (behind_whole bytes)

-- the parts that the bytes begin with
abbrev pub parts_of : List ℕ → Parts
parts_of bytes = record {
  sign = sign_of bytes;
  whole = leading_digits (behind_sign bytes);
  fraction = fraction_of (behind_whole bytes);
  exponent = exponent_of (behind_mantissa bytes);
}

-- what follows the parts that the bytes begin with
abbrev pub behind_parts : List ℕ → List ℕ
behind_parts bytes = behind_exponent (behind_mantissa bytes)

-- an exponent that is written has digits
abbrev pub HasExponentDigits : Option Exponent → Type 0
HasExponentDigits None = Unit {0}
HasExponentDigits (Some e) = 0 < length e.digits

-- the parts take up all bytes, and have the digits that a number must have
pub record IsCutWhole (bytes : List ℕ) : Type 0 where
  pub all : behind_parts bytes ≡ []
  pub some : 0 < length (mantissa (parts_of bytes))
  pub exponent : HasExponentDigits (exponent_of (behind_mantissa bytes))
