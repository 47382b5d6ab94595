-- The definitions on a few spellings and values.
use Rattle.std.specs.Prelude.{◌≡◌, ℕ, Bool, true, false, ℤ, pos, negsuc, codes}
use Rattle.crs_decimal.specs.Numbers.{IsInBounds, Denotes, HasForm, plain, Value, exact, zero}

-- a decimal of this sign, these digits and this power of ten
abbrev pub value : Bool → ℕ → ℤ → Value
value negative digits power = record { negative = negative; digits = digits; power = power }

-- three spellings, and the numbers that they denote
abbrev pub SpellingsDenote : Type 0
SpellingsDenote =
    Denotes (codes "-0012.3400") (exact (value true 1234 (negsuc 1)))
    × Denotes (codes "1.5e+3") (exact (value false 15 (pos 2)))
    × Denotes (codes "-.0E999") (exact zero)

-- a spelling of the number form that is out of bounds, and two that haven't the form
abbrev pub SpellingsFail : Type 0
SpellingsFail =
    (HasForm (codes "1E41") × ¬ (IsInBounds (codes "1E41"))) × ¬ (HasForm (codes "1.5.2"))
    × ¬ (HasForm (codes "."))

-- four values and their plain spellings
abbrev pub ValuesArePlain : Type 0
ValuesArePlain =
    (plain (value true 1234 (negsuc 1)) ≡ codes "-12.34")
    × (plain (value false 5 (negsuc 2)) ≡ codes "0.005")
    × (plain (value false 15 (pos 2)) ≡ codes "1500")
    × (plain zero ≡ codes "0")
