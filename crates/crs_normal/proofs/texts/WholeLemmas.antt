-- The test that a number is a whole one of at most 64 bits.
use Rattle.std.proofs.Common.{◌≡◌, ◌≢◌, ◌↔◌, ◌⊎◌, ◌∙◌, ℕ, suc, zero, ◌<◌, ◌≤◌, ◌*◌, ◌^◌, ◌+◌, ◌-◌, ◌%◌, ◌++◌, ◌&&◌, ◌||◌, ◌==◌, not, Bool, true, false, nat_lt, fold, inl, inr, List, [], ◌∷◌, None, decimal, get_or, refl, sym, ap, subst, arith, rules, pos, negsuc, ℤ}
use Rattle.std.proofs.lemmas.Fmt.{decimal_digit, decimal_nonempty, digits_decimal, digits_value-decimal, first_decimal, length-decimal-le}
use Rattle.std.proofs.Math.Nat.{pow-suc, mul-le-mul_left, mul_assoc, one-le-pow, add-zero, zero-add}
use Rattle.std.proofs.lemmas.Bool.{and_parts, cases_lt, eqb-false, eqb-true, leb-true, ltb-true}
use Rattle.std.proofs.lemmas.List.{append-nil}
use Rattle.std.proofs.lemmas.Slice.Eq.{bytes_eq-Decides}
use Rattle.std.proofs.lemmas.Str.Parse.{IsNumeralModel, numerals_by_fold}
use Rattle.crs_decimal.specs.inner.Prelude.{Denotes, IsBounded, IsMeasured, digits_value, number_of, Number, SameNumber, whole_number, IsPlain, IsTrim, plain, AreDigits, Parts, SpellsNumber, parts_text, unsigned, Value, IsNormal, exact, is_power, is_zero_power, up_of, down_of}
use Rattle.crs_normal.specs.inner.SpelledCrs.{is_number}

-- laws of numbers and their spellings
pub record Laws : Type 0 where
  pub one_form : (bytes : List ℕ) (p q : Parts) → SpellsNumber bytes p → SpellsNumber bytes q → p ≡ q
  pub denotes : (v : Value) → IsNormal v → Denotes (plain v) (exact v)
  pub only : (v : Value) (bytes : List ℕ) → IsNormal v → IsPlain bytes → Denotes bytes (exact v) → bytes ≡ plain v
  pub symmetric : (a b : Number) → SameNumber a b → SameNumber b a
  pub transitive : (a b c : Number) → SameNumber a b → SameNumber b c → SameNumber a c

abbrev read_on : ℕ → List ℕ → ℕ
read_on n ds = fold (λ m d. m * 10 + (d - 48)) n ds

own : IsNumeralModel (λ ds. AreDigits ds) digits_value
own = numerals_by_fold (λ ds. AreDigits ds) (search rules) read_on (search rules)

-- ---- what `decimal` writes is plain

starts-trim : (ds : List ℕ) → 48 < get_or ds 0 0 → IsTrim ds
starts-trim [] l = absurd (omega arith)
starts-trim (d ∷ ds) l = inl (λ e. omega (arith, e, l))

decimal-trim : (n : ℕ) → n < 2 ^ 64 → IsTrim (decimal n)
decimal-trim n l = elim (cases_lt 0 n) [
  | inl some ↦ starts-trim (decimal n) (first_decimal n some l)
  | inr none ↦ subst IsTrim (sym (let z : n ≡ 0 = omega (arith, none) in ap decimal z ∙ decimal_digit 0 (omega arith))) (inr refl)
]

abbrev parts_of : ℕ → Parts
parts_of n = record { sign = unsigned; whole = decimal n; fraction = None; exponent = None }

text-is : (n : ℕ) → parts_text (parts_of n) ≡ decimal n
text-is n = simp append-nil

decimal-spells : (n : ℕ) → n < 2 ^ 64 → SpellsNumber (decimal n) (parts_of n)
decimal-spells n l = (
  sym (text-is n),
  record {
    digits = rw append-nil (digits_decimal own n l);
    some = rw append-nil (decimal_nonempty n l);
    exponent = tt;
  },
)

decimal-plain : (n : ℕ) → n < 2 ^ 64 → IsPlain (decimal n)
decimal-plain n l = record {
  parts = parts_of n;
  spells = decimal-spells n l;
  sign = inl refl;
  whole = decimal-trim n l;
  fraction = tt;
  exponent = refl;
}

value-is : (n : ℕ) → n < 2 ^ 64 → digits_value (decimal n ++ []) ≡ n
value-is n l = ap digits_value (append-nil (decimal n)) ∙ digits_value-decimal own n l

number-same : (n : ℕ) → n < 2 ^ 64 → SameNumber (number_of (parts_of n)) (whole_number n)
number-same n l = (ap (λ d. d * 1) (value-is n l), inl refl)

-- ---- a whole number that a normal value is, is within the bounds

all-of : (x y z w : Bool) → (x && y && (not z || w)) ≡ true → (x ≡ true) × ((y ≡ true) × ((z ≡ false) ⊎ (w ≡ true)))
all-of true true false w e = (refl, (refl, inl refl))
all-of true true true true e = (refl, (refl, inr refl))
all-of x y z w e = absurd cc

last-zero : (n k : ℕ) → (n * 10 ^ suc k) % 10 ≡ 0
last-zero n k =
    let e : n * 10 ^ suc k ≡ n * 10 ^ k * 10 = ap (λ p. n * p) (pow-suc 10 k) ∙ sym (mul_assoc n (10 ^ k) 10) in
    omega (arith, e)

none-of : (n k : ℕ) → 0 ≡ n * 10 ^ k → n ≡ 0
none-of zero k e = refl
none-of (suc m) k e =
    absurd (omega (arith, e, mul-le-mul_left (suc m) (one-le-pow k 10 (omega arith))))

sized : (d n : ℕ) (power : ℤ) → d < 10 ^ 38 → is_power power ≡ true → (d % 10 ≢ 0) ⊎ (d ≡ 0) →
    d * 10 ^ (up_of power + 0) ≡ n * 10 ^ (0 + down_of power) → (n ≡ 0) ⊎ IsMeasured (whole_number n)
sized d n (pos k) short near (inl last) e =
    let same : n ≡ d * 10 ^ k = omega (arith, rw add-zero at e) in
    let high : k ≤ 40 = leb-true k 40 near in
    inr (d, k, (same, last), short, omega arith, omega arith)
sized d n (pos k) short near (inr none) e = inl (omega (arith, subst (λ x. x * 10 ^ (k + 0) ≡ n * 1) none e))
sized d n (negsuc k) short near (inl last) e =
    let same : d ≡ n * 10 ^ suc k = omega (arith, rw zero-add at e) in
    absurd (last (ap (λ x. x % 10) same ∙ last-zero n k))
sized d n (negsuc k) short near (inr none) e = inl (none-of n (suc k) (omega (arith, rw zero-add at e, none)))

closing : (v : Value) → ((v.digits % 10 == 0) ≡ false) ⊎ ((v.digits == 0 && not v.negative && is_zero_power v.power) ≡ true) →
    (v.digits % 10 ≢ 0) ⊎ (v.digits ≡ 0)
closing v (inl last) = inl (eqb-false (v.digits % 10) 0 last)
closing v (inr none) =
    let zeros = and_parts (v.digits == 0 && not v.negative) (is_zero_power v.power) none in
    inr (eqb-true v.digits 0 (and_parts (v.digits == 0) (not v.negative) zeros.0).0)

whole-measured : (v : Value) (n : ℕ) → IsNormal v → SameNumber (exact v) (whole_number n) → (n ≡ 0) ⊎ IsMeasured (whole_number n)
whole-measured v n normal same =
    let facts = all-of (nat_lt v.digits (10 ^ 38)) (is_power v.power) (v.digits % 10 == 0) (v.digits == 0 && not v.negative && is_zero_power v.power) normal in
    sized v.digits n v.power (ltb-true v.digits (10 ^ 38) facts.0) facts.1.0 (closing v facts.1.1) same.0

-- ---- the test

module _ (laws : Laws) where
  decimal-denotes : (v : Value) (n : ℕ) → IsNormal v → n < 2 ^ 64 → SameNumber (exact v) (whole_number n) → Denotes (decimal n) (exact v)
  decimal-denotes v n normal l s =
      let bounded : IsBounded (parts_of n) = record {
        mantissa_digits = rw append-nil
            (let few = length-decimal-le 20 n (omega arith) (omega arith) l in omega (arith, few));
        exponent_digits = omega arith;
        measured = subst (λ d. (d ≡ 0) ⊎ IsMeasured (whole_number d)) (sym (value-is n l)) (whole-measured v n normal s);
      } in (
        parts_of n,
        decimal-spells n l,
        bounded,
        laws.transitive (number_of (parts_of n)) (whole_number n) (exact v) (number-same n l) (laws.symmetric (exact v) (whole_number n) s),
      )

  denoted-same : (v : Value) (n : ℕ) → n < 2 ^ 64 → Denotes (decimal n) (exact v) → SameNumber (exact v) (whole_number n)
  denoted-same v n l d =
      let e : d.0 ≡ parts_of n = laws.one_form (decimal n) d.0 (parts_of n) d.1 (decimal-spells n l) in
      let s : SameNumber (number_of (parts_of n)) (exact v) = subst (λ p. SameNumber (number_of p) (exact v)) e d.3 in
      laws.transitive (exact v) (number_of (parts_of n)) (whole_number n) (laws.symmetric (number_of (parts_of n)) (exact v) s) (number-same n l)

  pub number-tested : (v : Value) (n : ℕ) → IsNormal v → n < 2 ^ 64 → (is_number v n ≡ true) ↔ SameNumber (exact v) (whole_number n)
  number-tested v n in-v l = (
    λ e. denoted-same v n l (subst (λ bytes. Denotes bytes (exact v)) ((bytes_eq-Decides (plain v) (decimal n)).0 e) (laws.denotes v in-v)),
    λ s. (bytes_eq-Decides (plain v) (decimal n)).1 (sym (laws.only v (decimal n) in-v (decimal-plain n l) (decimal-denotes v n in-v l s))),
  )
