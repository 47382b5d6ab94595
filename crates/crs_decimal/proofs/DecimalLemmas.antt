-- The digits that `decimal` writes, and the plain spelling that is made of them.
use Rattle.std.proofs.Common.{◌≡◌, ◌≢◌, ℕ, zero, suc, ◌+◌, ◌-◌, ◌*◌, ◌%◌, ◌/◌, ◌^◌, ◌<◌, ◌≤◌, ◌⊎◌, inl, inr, true, List, [], ◌∷◌, ◌++◌, length, take, drop, replicate, decimal, refl, sym, ap, subst, ◌∙◌, arith, append_assoc, length-append}
use Rattle.std.proofs.lemmas.Bool.{and_from, le-leb, cases_lt}
use Rattle.std.proofs.lemmas.Fmt.{decimal_by_steps_wide}
use Rattle.std.proofs.lemmas.List.{length-replicate, length-drop, drop-append-le}
use Rattle.crs_decimal.specs.Numbers.{digits_value, is_digit, AreDigits, IsTrim, EndsTrim, padded}
use Rattle.crs_decimal.proofs.DigitLemmas.{value-append, value-zeros, zeros_are_digits}
use Rattle.crs_decimal.proofs.SplitLemmas.{digits-append}

abbrev pub StartsAbove : List ℕ → Type 0
StartsAbove [] = ⊥
StartsAbove (d ∷ ds) = d ≢ 48

-- these are n's digits
pub record AreDigitsOf (n : ℕ) (ds : List ℕ) : Type 0 where
  pub digits : AreDigits ds
  pub value : digits_value ds ≡ n
  pub trim : IsTrim ds
  pub start : 0 < n → StartsAbove ds
  pub front : List ℕ
  pub last : ds ≡ front ++ (48 + n % 10) ∷ []

digit_from : (n : ℕ) → n < 10 → is_digit (48 + n) ≡ true
digit_from n l = and_from _ _ (le-leb 48 (48 + n) (omega arith)) (le-leb (48 + n) 57 (omega arith))

one_digit : (n : ℕ) → n < 10 → AreDigitsOf n ((48 + n) ∷ [])
one_digit n l = record {
  digits = and_from _ _ (digit_from n l) refl;
  value = omega arith;
  trim = inr refl;
  start = λ some e. absurd (omega arith);
  front = [];
  last = ap (λ x. x ∷ []) (omega arith);
}

pub start-append : (xs ys : List ℕ) → StartsAbove xs → StartsAbove (xs ++ ys)
start-append [] ys h = absurd h
start-append (x ∷ xs) ys h = h

pub start_trim : (xs : List ℕ) → StartsAbove xs → IsTrim xs
start_trim xs h = grind arith

pub above_some : (ds : List ℕ) → IsTrim ds → 0 < length ds
above_some ds h = grind arith

more_digits : (n : ℕ) (ds : List ℕ) → 10 ≤ n → AreDigitsOf (n / 10) ds → AreDigitsOf n (ds ++ (48 + n % 10) ∷ [])
more_digits n ds l h =
    let last = (48 + n % 10) ∷ [] in
    let start = start-append ds last (h.start (omega arith)) in
    record {
      digits = digits-append ds last h.digits (and_from _ _ (digit_from (n % 10) (omega arith)) refl);
      value = omega (arith, value-append ds last, h.value);
      trim = start_trim (ds ++ last) start;
      start = λ _. start;
      front = ds;
      last = refl;
    }

pub decimal_digits : (n : ℕ) → n < 10 ^ 64 → AreDigitsOf n (decimal n)
decimal_digits n l = decimal_by_steps_wide AreDigitsOf one_digit more_digits n l

-- ---- digits with zeros put before them

pub padded_digits : (k n : ℕ) (ds : List ℕ) → AreDigitsOf n ds → AreDigits (padded k ds)
padded_digits k n ds h = digits-append (replicate (k - length ds) 48) ds (zeros_are_digits (k - length ds)) h.digits

pub padded_value : (k n : ℕ) (ds : List ℕ) → AreDigitsOf n ds → digits_value (padded k ds) ≡ n
padded_value k n ds h =
    value-append (replicate (k - length ds) 48) ds ∙ ap (λ v. v * 10 ^ length ds + digits_value ds) (value-zeros (k - length ds)) ∙ omega (arith, h.value)

pub padded_length : (k : ℕ) (ds : List ℕ) → (length (padded k ds) ≡ k) ⊎ ((k ≤ length ds) × (padded k ds ≡ ds))
padded_length k ds = elim (cases_lt (length ds) k) [
  | inl l ↦ inl (length-append (replicate (k - length ds) 48) ds ∙ omega (arith, length-replicate {A = ℕ} (k - length ds) 48))
  | inr l ↦ inr (l, ap (λ x. replicate x 48 ++ ds) (let z : k - length ds ≡ 0 = omega arith in z))
]

one_trim : (ds : List ℕ) → 0 < length ds → IsTrim (take 1 ds)
one_trim ds l = grind arith

some_trim : (m : ℕ) (ds : List ℕ) → StartsAbove ds → 0 < m → IsTrim (take m ds)
some_trim m [] h l = absurd h
some_trim zero (d ∷ ds) h l = absurd (omega arith)
some_trim (suc m) (d ∷ ds) h l = inl h

pub ends-push : (xs : List ℕ) (d : ℕ) → d ≢ 48 → EndsTrim (xs ++ d ∷ [])
ends-push [] d h = h
ends-push (x ∷ []) d h = h
ends-push (x ∷ y ∷ xs) d h = ends-push (y ∷ xs) d h

-- the whole part and the fraction of at least k + 1 digits, k of them after the period
pub whole_trim : (k n : ℕ) (ds : List ℕ) → AreDigitsOf n ds → 0 < n → IsTrim (take (length (padded (suc k) ds) - k) (padded (suc k) ds))
whole_trim k n ds h some =
    let p = padded (suc k) ds in
    elim (padded_length (suc k) ds) [
      | inl e ↦ let one : length p - k ≡ 1 = omega (arith, e) in
          subst (λ (m : ℕ). IsTrim (take m p)) (sym one) (one_trim p (omega (arith, e)))
      | inr e ↦ some_trim (length p - k) p (subst StartsAbove (sym e.1) (h.start some)) (omega (arith, ap length e.1, e.0))
    ]

pub fraction_trim : (k n : ℕ) (ds : List ℕ) → AreDigitsOf n ds → n % 10 ≢ 0 → 0 < k → EndsTrim (drop (length (padded (suc k) ds) - k) (padded (suc k) ds))
fraction_trim k n ds h last some =
    let p = padded (suc k) ds in
    let x = 48 + n % 10 in
    let front = replicate (suc k - length ds) 48 ++ h.front in
    let ends : p ≡ front ++ x ∷ [] = ap (λ y. replicate (suc k - length ds) 48 ++ y) h.last ∙ sym (append_assoc (replicate (suc k - length ds) 48) h.front (x ∷ [])) in
    let size : length p ≡ length front + 1 = ap length ends ∙ length-append front (x ∷ []) in
    let cut = ap (λ y. drop (length p - k) y) ends ∙ drop-append-le (length p - k) front (x ∷ []) (omega (arith, size)) in
    subst EndsTrim (sym cut) (ends-push (drop (length p - k) front) x (λ e. last (omega (arith, e))))

pub fraction_length : (k : ℕ) (ds : List ℕ) → length (drop (length (padded (suc k) ds) - k) (padded (suc k) ds)) ≡ k
fraction_length k ds =
    let more = suc k - length ds in
    rw length-drop (omega (arith, length-append (replicate more 48) ds, length-replicate {A = ℕ} more 48))
