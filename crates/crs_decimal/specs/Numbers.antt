-- Numbers: exact ones, how they are spelled, and the plain form.
use Rattle.std.specs.Prelude.{◌≡◌, ℕ, ◌+◌, ◌*◌, ◌^◌, Bool, false, ◌⊎◌, suc, ◌%◌, ◌==◌, ◌&&◌, ◌||◌, not, nat_lt, nat_le, IsTrue, ℤ, pos, negsuc, ◌<◌, List, [], ◌∷◌, ◌++◌, length, Option, Some, None, ◌≢◌, ◌-◌, ◌≤◌, true, if◌then◌else◌, fold, take, drop, replicate, decimal}
use Rattle.std.specs.List.{list_all}

-- ---- an exact number: no rounding, and equality by multiplying across

-- digits * 10^up / 10^down, and below zero where `negative`
pub record Number : Type 0 where
  pub negative : Bool
  pub digits : ℕ
  pub up : ℕ
  pub down : ℕ

-- two numbers are of one size: equal when the powers of ten below are multiplied across
abbrev pub SameSize : Number → Number → Type 0
SameSize a b = a.digits * 10 ^ (a.up + b.down) ≡ b.digits * 10 ^ (b.up + a.down)

-- two numbers are the same: of one size, and of one sign unless both are zero
abbrev pub SameNumber : Number → Number → Type 0
SameNumber a b = SameSize a b × ((a.negative ≡ b.negative) ⊎ ((a.digits ≡ 0) × (b.digits ≡ 0)))

-- a natural number as an exact number
abbrev pub whole_number : ℕ → Number
whole_number n = record { negative = false; digits = n; up = 0; down = 0 }

-- ---- a decimal as callers see it, always in its normal form

-- digits * 10^power, below zero where `negative`
pub record Value : Type 0 where
  pub negative : Bool
  pub digits : ℕ
  pub power : ℤ

-- the decimal zero
abbrev pub zero : Value
zero = record { negative = false; digits = 0; power = pos 0 }

-- a power from -40 to 40
abbrev pub is_power : ℤ → Bool
is_power (pos n) = nat_le n 40
is_power (negsuc n) = nat_lt n 40

-- whether a power of ten is 0
abbrev pub is_zero_power : ℤ → Bool
is_zero_power (pos n) = n == 0
is_zero_power (negsuc n) = false

-- zero is neither negative nor has a power; any other number has at most 38 digits, the last not a zero
abbrev pub is_normal : Value → Bool
is_normal v =
    nat_lt v.digits (10 ^ 38) && is_power v.power && (not (v.digits % 10 == 0)
    || (v.digits == 0 && not v.negative && is_zero_power v.power))

-- the decimal is in its normal form
abbrev pub IsNormal : Value → Type 0
IsNormal v = IsTrue (is_normal v)

-- the power of ten that a decimal's power multiplies by; 0 where it divides
abbrev pub up_of : ℤ → ℕ
up_of (pos n) = n
up_of (negsuc n) = 0

-- the power of ten that a decimal's power divides by; 0 where it multiplies
abbrev pub down_of : ℤ → ℕ
down_of (pos n) = 0
down_of (negsuc n) = suc n

-- the number that the decimal denotes
abbrev pub exact : Value → Number
exact v = record { negative = v.negative; digits = v.digits; up = up_of v.power; down = down_of v.power }

-- ---- how a number is spelled: [sign] (digits [. [digits]] | . digits) [E [sign] digits]

-- a number's sign as it is written: none, a plus or a minus
pub data Sign : Type 0 where
  unsigned plus minus : Sign

-- the bytes of a sign
abbrev pub sign_text : Sign → List ℕ
sign_text unsigned = []
sign_text plus = 43 ∷ []
sign_text minus = 45 ∷ []

-- an exponent: its letter, E or e, its sign and its digits
pub record Exponent : Type 0 where
  pub letter : ℕ
  pub sign : Sign
  pub digits : List ℕ

-- the parts of a number as they are written; the fraction is what follows the period, if there is one
pub record Parts : Type 0 where
  pub sign : Sign
  pub whole : List ℕ
  pub fraction : Option (List ℕ)
  pub exponent : Option Exponent

-- the bytes of a fraction: a period and its digits
abbrev pub fraction_text : Option (List ℕ) → List ℕ
fraction_text None = []
fraction_text (Some digits) = 46 ∷ digits

-- the bytes of an exponent: its letter, its sign and its digits
abbrev pub exponent_text : Option Exponent → List ℕ
exponent_text None = []
exponent_text (Some e) = e.letter ∷ sign_text e.sign ++ e.digits

-- the bytes of the parts, one after another
abbrev pub parts_text : Parts → List ℕ
parts_text p = sign_text p.sign ++ p.whole ++ fraction_text p.fraction ++ exponent_text p.exponent

-- a digit, 0-9
abbrev pub is_digit : ℕ → Bool
is_digit b = nat_le 48 b && nat_le b 57

-- all bytes are digits
abbrev pub AreDigits : List ℕ → Type 0
AreDigits ds = IsTrue (list_all is_digit ds)

-- the digits of a fraction, none where none is written
abbrev pub fraction_digits : Option (List ℕ) → List ℕ
fraction_digits None = []
fraction_digits (Some ds) = ds

-- all digits of the mantissa
abbrev pub mantissa : Parts → List ℕ
mantissa p = p.whole ++ fraction_digits p.fraction

-- an exponent, where one is written, has the letter E or e and at least one digit
abbrev pub IsExponent : Option Exponent → Type 0
IsExponent None = Unit {0}
IsExponent (Some e) = IsTrue (e.letter == 69 || e.letter == 101) × AreDigits e.digits × (0 < length e.digits)

-- the parts are of the number form: the mantissa is digits, at least one, and an exponent has its letter and its digits
pub record IsForm (p : Parts) : Type 0 where
  pub digits : AreDigits (mantissa p)
  pub some : 0 < length (mantissa p)
  pub exponent : IsExponent p.exponent

-- the bytes spell a number of these parts
abbrev pub SpellsNumber : List ℕ → Parts → Type 0
SpellsNumber bytes p = (bytes ≡ parts_text p) × IsForm p

-- the bytes have the number form
abbrev pub HasForm : List ℕ → Type 0
HasForm bytes = (p : Parts) × SpellsNumber bytes p

-- the bytes of which numbers and words consist: 0-9 A-Z a-z _ . + -
abbrev pub is_run_byte : ℕ → Bool
is_run_byte b =
    is_digit b || (nat_le 65 b && nat_le b 90) || (nat_le 97 b && nat_le b 122) || b == 95
    || b == 46 || b == 43
    || b == 45

-- the bytes that a number starts with: 0-9 . + -
abbrev pub is_run_start : ℕ → Bool
is_run_start b = is_digit b || b == 46 || b == 43 || b == 45

-- ---- the number that the parts of a spelling mean, and which spellings are within the bounds

-- the number that decimal digits spell
abbrev pub digits_value : List ℕ → ℕ
digits_value ds = fold (λ n d. n * 10 + (d - 48)) 0 ds

-- whether a sign is a minus
abbrev pub is_minus : Sign → Bool
is_minus unsigned = false
is_minus plus = false
is_minus minus = true

-- whether an exponent is written with a minus
abbrev pub is_below : Option Exponent → Bool
is_below None = false
is_below (Some e) = is_minus e.sign

-- the digits of an exponent, none where none is written
abbrev pub exponent_digits : Option Exponent → List ℕ
exponent_digits None = []
exponent_digits (Some e) = e.digits

-- the power of ten by which an exponent multiplies; 0 where it has a minus
abbrev pub power_up : Option Exponent → ℕ
power_up e = if is_below e then 0 else digits_value (exponent_digits e)

-- the power of ten by which an exponent divides; 0 where it has no minus
abbrev pub power_down : Option Exponent → ℕ
power_down e = if is_below e then digits_value (exponent_digits e) else 0

-- the number that the parts mean: all mantissa digits as one number,
-- times ten to the exponent less the count of fraction digits
abbrev pub number_of : Parts → Number
number_of p = record {
  negative = is_minus p.sign;
  digits = digits_value (mantissa p);
  up = power_up p.exponent;
  down = power_down p.exponent + length (fraction_digits p.fraction);
}

-- n is m * 10^k, and m doesn't end in a zero
abbrev pub Strips : ℕ → ℕ → ℕ → Type 0
Strips n m k = (n ≡ m * 10 ^ k) × (m % 10 ≢ 0)

-- at most 38 digits from the first to the last that isn't zero, and those times a power of ten from -40 to 40
abbrev pub IsMeasured : Number → Type 0
IsMeasured n =
    (m k : ℕ) × Strips n.digits m k × (m < 10 ^ 38) × (n.down ≤ n.up + k + 40)
    × (n.up + k ≤ n.down + 40)

-- at most 100 mantissa digits and 3 exponent digits are written, and the number is zero or measured
pub record IsBounded (p : Parts) : Type 0 where
  pub mantissa_digits : length (mantissa p) ≤ 100
  pub exponent_digits : length (exponent_digits p.exponent) ≤ 3
  pub measured : ((number_of p).digits ≡ 0) ⊎ IsMeasured (number_of p)

-- the bytes spell a number within the bounds
abbrev pub IsInBounds : List ℕ → Type 0
IsInBounds bytes = (p : Parts) × SpellsNumber bytes p × IsBounded p

-- the bytes spell this number, within the bounds
abbrev pub Denotes : List ℕ → Number → Type 0
Denotes bytes n = (p : Parts) × SpellsNumber bytes p × IsBounded p × SameNumber (number_of p) n

-- ---- the plain spelling: no exponent, no plus sign, no needless zero, no closing period, a zero before a leading period

-- digits that begin with no zero, or one zero alone
abbrev pub IsTrim : List ℕ → Type 0
IsTrim [] = ⊥
IsTrim (d ∷ ds) = (d ≢ 48) ⊎ (ds ≡ [])

-- digits that end in no zero, at least one
abbrev pub EndsTrim : List ℕ → Type 0
EndsTrim [] = ⊥
EndsTrim (d ∷ []) = d ≢ 48
EndsTrim (d ∷ e ∷ ds) = EndsTrim (e ∷ ds)

-- there is a minus only where the number isn't zero
abbrev pub IsSignNeeded : Parts → Type 0
IsSignNeeded p = (p.sign ≡ unsigned) ⊎ ((p.sign ≡ minus) × ((p.whole ≢ 48 ∷ []) ⊎ (p.fraction ≢ None)))

-- a fraction, where one is written, has a digit and doesn't end in a zero
abbrev pub IsFractionNeeded : Option (List ℕ) → Type 0
IsFractionNeeded None = Unit {0}
IsFractionNeeded (Some ds) = EndsTrim ds

-- the bytes are a plain spelling
pub record IsPlain (bytes : List ℕ) : Type 0 where
  pub parts : Parts
  pub spells : SpellsNumber bytes parts
  pub sign : IsSignNeeded parts
  pub whole : IsTrim parts.whole
  pub fraction : IsFractionNeeded parts.fraction
  pub exponent : parts.exponent ≡ None

-- what follows the bytes from before is a plain spelling of the value
pub record AppendsPlain (value : Value) (before after : List ℕ) : Type 0 where
  pub spelling : List ℕ
  pub appended : after ≡ before ++ spelling
  pub is_plain : IsPlain spelling
  pub denotes : Denotes spelling (exact value)

-- digits with zeros before them where there are fewer than n
abbrev pub padded : ℕ → List ℕ → List ℕ
padded n ds = replicate (n - length ds) 48 ++ ds

-- a period placed before the last n digits
abbrev pub with_period : ℕ → List ℕ → List ℕ
with_period n ds = take (length ds - n) ds ++ 46 ∷ drop (length ds - n) ds

-- the digits times ten to the power, written out
abbrev pub scaled : List ℕ → ℤ → List ℕ
scaled ds (pos n) = ds ++ replicate n 48
scaled ds (negsuc n) = with_period (suc n) (padded (suc (suc n)) ds)

-- the plain spelling of a value
abbrev pub plain : Value → List ℕ
plain v = (if v.negative then 45 ∷ [] else []) ++ scaled (decimal v.digits) v.power
