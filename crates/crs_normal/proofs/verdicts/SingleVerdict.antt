-- Whether a single item is well formed, and whether it is normal where it is, by computing.
use Rattle.std.proofs.Common.{◌≡◌, ℕ, zero, suc, ◌+◌, ◌-◌, ◌==◌, Bool, true, false, List, [], ◌∷◌, ◌++◌, length, take, fold, ℤ, pos, negsuc, Option, Some, None, codes, if◌then◌else◌, inl, inr, refl, sym, ap, subst, ◌∙◌, arith, encode_utf8_all}
use Rattle.std.specs.List.{list_all}
use Rattle.std.specs.Str.{all_scalars, str_to_ascii_lowercase}
use Rattle.crs_decimal.specs.inner.Prelude.{IsInBounds, digits_value, Denotes, IsFractionNeeded, IsPlain, plain, Parts, SpellsNumber, unsigned, Value, IsNormal, exact, is_normal}
use Rattle.crs_decimal.specs.Numbers.{zero as zero_value}
use Rattle.crs_text.specs.inner.Prelude.{Item, leaf, doubled, Kind, number, text, word, IsSingle, IsWord, is_letter, is_word_byte}
use Rattle.crs_text.specs.declared.items.ItemKind.TheVariants as kinds
use Rattle.crs_shape.specs.declared.class.Class.{Class}
use Rattle.crs_shape.specs.declared.class.Class.TheVariants as class
use Rattle.crs_shape.specs.inner.Prelude.{direction_word, every_direction, every_type, system_word}
use Rattle.crs_value.specs.inner.Prelude.{IsText}
use Rattle.crs_normal.specs.inner.LowerLaws.{LowerLaws}
use Rattle.crs_normal.specs.Normal.{IsNumberIn, IsSingleIn, IsWordIn, IsCode, IsShort}
use Rattle.crs_normal.specs.inner.SpelledItems.{is_short}
use Rattle.crs_normal.proofs.made.LeafLemmas.{short-true, true-short}
use Rattle.crs_normal.proofs.texts.WordFormLemmas.{AreKnown, direction-known, spelled, type-known}
use Rattle.crs_normal.proofs.verdicts.Verdicts.{Verdict, both, equal, negated, or_else, refuted_by, shown_by, tested, via}
use Rattle.crs_normal.proofs.texts.ItemLemmas.{run-single}

-- ---- codes

abbrev short : (raw : List ℕ) → Verdict (IsShort raw)
short raw = tested (is_short raw) (true-short raw) (short-true raw)

pub number-code : (raw : List ℕ) → IsCode (leaf number 0 raw) → IsShort raw
number-code raw (inl h) = h.0
number-code raw (inr h) = let k : kinds.Number ≡ kinds.Text = h.1 in cc

pub text-code : (raw : List ℕ) → IsCode (leaf text 0 raw) → ¬ (IsShort raw)
text-code raw (inl h) = let k : kinds.Text ≡ kinds.Number = h.1 in cc
text-code raw (inr h) = h.0

abbrev pub is_code : (item : Item) → Verdict (IsCode item)
is_code (leaf number place raw) = via (λ s. inl (s, refl)) (number-code raw) (short raw)
is_code (leaf text place raw) = via (λ n. inr (n, refl)) (text-code raw) (negated (short raw))
is_code other = None

-- ---- words

-- one of the words of a kind, which are known by their small letters
module _ {T : Type 0} (word : T → List ℕ) (all : List T) (known : AreKnown word all) where
  abbrev found_of : List ℕ → Option T
  found_of raw = spelled word all (str_to_ascii_lowercase raw)

  pub no-word : (raw : List ℕ) → found_of raw ≡ None → ¬ ((t : T) × (raw ≡ word t))
  no-word raw e h = let k : None ≡ Some h.0 = sym e ∙ ap found_of h.1 ∙ known h.0 in cc

  pub other-word : (raw : List ℕ) (t : T) → found_of raw ≡ Some t → (u : T) × (raw ≡ word u) → raw ≡ word t
  other-word raw t e h =
      let k : Some t ≡ Some h.0 = sym e ∙ ap found_of h.1 ∙ known h.0 in
      let l : h.0 ≡ t = cc in h.1 ∙ ap word l

  abbrev word_of : (raw : List ℕ) (found : Option T) → found_of raw ≡ found → Verdict ((t : T) × (raw ≡ word t))
  word_of raw None e = Some (inr (no-word raw e))
  word_of raw (Some t) e = via (λ p. (t, p)) (other-word raw t e) (equal raw (word t))

  abbrev is_word_of : (raw : List ℕ) → Verdict ((t : T) × (raw ≡ word t))
  is_word_of raw = word_of raw (found_of raw) refl

abbrev word_in : (c : Class) (raw : List ℕ) → Verdict (IsWordIn c raw)
word_in class.CoordinateSystem raw = is_word_of system_word every_type type-known raw
word_in class.Axis raw = is_word_of direction_word every_direction direction-known raw
word_in c raw = Some (inl tt)

-- ---- numbers

-- how many zeros there are at the end
abbrev zeros : List ℕ → ℕ
zeros ds = fold (λ n d. if d == 48 then n + 1 else 0) 0 ds

abbrev power_by : ℕ → ℤ
power_by zero = pos 0
power_by (suc n) = negsuc n

abbrev without_zeros : List ℕ → ℕ → Bool → Value
without_zeros ds n true = zero_value
without_zeros ds n false = record { negative = false; digits = digits_value (take (length ds - n) ds); power = pos n }

-- the value of digits, and of digits with a period among them; for any other bytes some value
abbrev value_of : List ℕ → List ℕ → Value
value_of ds [] = without_zeros ds (zeros ds) (zeros ds == length ds)
value_of ds (e ∷ es) = record { negative = false; digits = digits_value (ds ++ e ∷ es); power = power_by (length (e ∷ es)) }

abbrev before_period : List ℕ → List ℕ
before_period [] = []
before_period (d ∷ ds) = if d == 46 then [] else d ∷ before_period ds

abbrev behind_period : List ℕ → List ℕ
behind_period [] = []
behind_period (d ∷ ds) = if d == 46 then ds else behind_period ds

abbrev below_zero : Value → Value
below_zero v = record { negative = true; digits = v.digits; power = v.power }

abbrev value_from : List ℕ → Value
value_from [] = zero_value
value_from (d ∷ ds) =
    if d == 45 then below_zero (value_of (before_period ds) (behind_period ds))
    else value_of (before_period (d ∷ ds)) (behind_period (d ∷ ds))

-- the bytes are the plain spelling of a value
abbrev IsPlainOf : List ℕ → Type 0
IsPlainOf raw = IsNormal (value_from raw) × (raw ≡ plain (value_from raw))

abbrev plain_of : (raw : List ℕ) → Verdict (IsPlainOf raw)
plain_of raw =
    both (tested (is_normal (value_from raw)) (λ e. e) (λ e. e)) (equal raw (plain (value_from raw)))

pub plain-is-plain : LowerLaws → (raw : List ℕ) → IsPlainOf raw → IsPlain raw
plain-is-plain l raw h = subst IsPlain (sym h.1) (l.is_plain (value_from raw) h.0)

pub plain-is-single : LowerLaws → (raw : List ℕ) → IsPlainOf raw → IsSingle number raw
plain-is-single l raw h =
    let v : Value = value_from raw in
    let d : Denotes (plain v) (exact v) = l.denotes v h.0 in
    subst (IsSingle number) (sym h.1)
    (run-single (plain v) (l.run (plain v) (d.0, d.1)) (d.0, d.1, d.2))

-- ---- the one number here that isn't plain

abbrev one_point_zero : Parts
one_point_zero = record { sign = unsigned; whole = codes "1"; fraction = Some (codes "0"); exponent = None }

spells-one : SpellsNumber (codes "1.0") one_point_zero
spells-one = (refl, record { digits = refl; some = omega arith; exponent = tt })

one-in-bounds : IsInBounds (codes "1.0")
one-in-bounds = (
  one_point_zero,
  spells-one,
  record {
    mantissa_digits = omega arith;
    exponent_digits = omega arith;
    measured = inr (1, 1, (refl, λ e. cc), omega arith, omega arith, omega arith);
  },
)

pub one-is-single : (raw : List ℕ) → raw ≡ codes "1.0" → IsSingle number raw
one-is-single raw e = subst (IsSingle number) (sym e) (refl, refl, one-in-bounds)

pub one-is-not-plain : LowerLaws → (raw : List ℕ) → raw ≡ codes "1.0" → ¬ (IsPlain raw)
one-is-not-plain l raw e h =
    let p : IsPlain (codes "1.0") = subst IsPlain e h in
    let k : p.parts ≡ one_point_zero = l.one_form (codes "1.0") p.parts one_point_zero p.spells spells-one in
    let f : IsFractionNeeded (Some (codes "0")) = subst (λ q. IsFractionNeeded q.fraction) k p.fraction in f refl

abbrev is_plain_number : LowerLaws → (raw : List ℕ) → Verdict (IsPlain raw)
is_plain_number l raw =
    or_else (shown_by (plain-is-plain l raw) (plain_of raw))
    (refuted_by (one-is-not-plain l raw) (equal raw (codes "1.0")))

abbrev is_single_number : LowerLaws → (raw : List ℕ) → Verdict (IsSingle number raw)
is_single_number l raw =
    or_else (shown_by (plain-is-single l raw) (plain_of raw))
    (shown_by (one-is-single raw) (equal raw (codes "1.0")))

-- ---- single items

abbrev number_in : LowerLaws → (c : Class) (raw : List ℕ) → Verdict (IsNumberIn c raw)
number_in l class.Identifier raw = Some (inl tt)
number_in l c raw = is_plain_number l raw

abbrev pub single_in : LowerLaws → (c : Class) (kind : Kind) (raw : List ℕ) → Verdict (IsSingleIn c kind raw)
single_in l c number raw = number_in l c raw
single_in l c text raw = Some (inl tt)
single_in l c word raw = word_in c raw

abbrev pub is_word : (raw : List ℕ) → Verdict (IsWord raw)
is_word [] = Some (inr (λ h. h))
is_word (b ∷ bs) = both (tested (is_letter b) (λ e. e) (λ e. e)) (tested (list_all is_word_byte bs) (λ e. e) (λ e. e))

-- a text without a quote, whose bytes are its characters
abbrev is_text : (raw : List ℕ) → Verdict (IsText raw)
is_text raw =
    shown_by (λ h. ((raw, h.0), (raw, (h.1.0, h.1.1)))) (both (equal raw (doubled raw))
    (both (tested (all_scalars raw) (λ e. e) (λ e. e)) (equal (encode_utf8_all raw) raw)))

abbrev pub is_single : LowerLaws → (kind : Kind) (raw : List ℕ) → Verdict (IsSingle kind raw)
is_single l number raw = is_single_number l raw
is_single l text raw = is_text raw
is_single l word raw = is_word raw
