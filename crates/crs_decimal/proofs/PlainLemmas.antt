-- A value has one plain spelling, and it is the one that is written.
use Rattle.std.proofs.Common.{◌≡◌, ◌≢◌, ℕ, suc, ◌+◌, ◌-◌, ◌*◌, ◌%◌, ◌^◌, ◌<◌, ◌≤◌, ◌⊎◌, inl, inr, true, List, [], ◌∷◌, ◌++◌, length, Option, Some, None, refl, sym, ap, subst, ◌∙◌, arith}
use Rattle.std.specs.List.{list_all}
use Rattle.std.proofs.lemmas.Bool.{and_parts, cases_order}
use Rattle.std.proofs.lemmas.List.{append-nil}
use Rattle.std.proofs.lemmas.List.Sums.{fold-append}
use Rattle.std.proofs.lemmas.Nat.{same_from_place}
use Rattle.std.proofs.Math.Nat.{mul-one, mul-le-mul_right}
use Rattle.crs_decimal.specs.Numbers.{digits_value, is_minus, power_up, power_down, number_of, Denotes, Parts, parts_text, is_digit, AreDigits, fraction_digits, mantissa, SameSize, SameNumber, Value, exact}
use Rattle.crs_decimal.specs.Numbers.{IsTrim, EndsTrim, IsSignNeeded, IsFractionNeeded, IsPlain}
use Rattle.crs_decimal.proofs.DecimalLemmas.{above_some}
use Rattle.crs_decimal.proofs.DigitLemmas.{value_after, value-append, value-cons, value-below, same_digits, digit_range, last_digit}
use Rattle.crs_decimal.proofs.NumberLemmas.{lowered, cancelled, symmetric, transitive}
use Rattle.crs_decimal.proofs.PowerLemmas.{power_grows, last_zero}
use Rattle.crs_decimal.proofs.SplitLemmas.{digits_parts, parts_one}

-- ---- a plain spelling is known by its number

trim_least : (d : ℕ) (ds : List ℕ) → d ≢ 48 → is_digit d ≡ true → 10 ^ length ds ≤ digits_value (d ∷ ds)
trim_least d ds ne h =
    let r = digit_range d h in
    let one : 1 * 10 ^ length ds ≤ (d - 48) * 10 ^ length ds = mul-le-mul_right (10 ^ length ds) (omega arith) in
    omega (arith, value-cons d ds)

trim_longer : (w x : List ℕ) → AreDigits w → AreDigits x → IsTrim x → 0 < length w → length w < length x → digits_value w ≡ digits_value x → ⊥
trim_longer w [] g h t some l e = absurd t
trim_longer w (d ∷ ds) g h (inl ne) some l e =
    let least = trim_least d ds ne (and_parts (is_digit d) (list_all is_digit ds) h).0 in
    let below = value-below w g in
    let grows = power_grows (length w) (length ds) (omega arith) in
    omega arith
trim_longer w (d ∷ ds) g h (inr none) some l e = absurd (omega (arith, ap length none))

trim_one : (w x : List ℕ) → AreDigits w → AreDigits x → IsTrim w → IsTrim x → digits_value w ≡ digits_value x → w ≡ x
trim_one w x g h t u e = elim (cases_order (length w) (length x)) [
  | inl same ↦ same_digits w x same g h e
  | inr (inl less) ↦ absurd (trim_longer w x g h u (above_some w t) less e)
  | inr (inr more) ↦ absurd (trim_longer x w h g t (above_some x u) more (sym e))
]

-- digits that end in no zero make a number that doesn't either
after_last : (n : ℕ) (ds : List ℕ) → AreDigits ds → EndsTrim ds → value_after n ds % 10 ≢ 0
after_last n [] g t = absurd t
after_last n (d ∷ []) g t =
    let r = digit_range d (and_parts (is_digit d) true g).0 in
    last_digit n (d - 48) (omega arith) (λ e. t (omega arith))
after_last n (d ∷ x ∷ ds) g t =
    after_last (n * 10 + (d - 48)) (x ∷ ds) (and_parts (is_digit d) (list_all is_digit (x ∷ ds)) g).1 t

value_last : (w ds : List ℕ) → AreDigits ds → EndsTrim ds → digits_value (w ++ ds) % 10 ≢ 0
value_last w ds g t = subst (λ (n : ℕ). n % 10 ≢ 0) (sym (fold-append (λ n d. n * 10 + (d - 48)) 0 w ds)) (after_last (digits_value w) ds g t)

-- a fraction with more digits would leave the other number ending in a zero
fraction_longer : (m n k j : ℕ) → m * 10 ^ j ≡ n * 10 ^ k → k < j → n % 10 ≢ 0 → ⊥
fraction_longer m n k j e l ne =
    let i = j - suc k in
    let low : m * 10 ^ suc i ≡ n * 10 ^ 0 = lowered m n (suc i) 0 k j k e (omega arith) (omega arith) in
    ne (ap (λ x. x % 10) (sym (mul-one n) ∙ sym low) ∙ last_zero m i)

fraction_last : (w : List ℕ) (f : Option (List ℕ)) → AreDigits (fraction_digits f) → IsFractionNeeded f → 0 < length (fraction_digits f) → digits_value (w ++ fraction_digits f) % 10 ≢ 0
fraction_last w None g t l = absurd (omega arith)
fraction_last w (Some ds) g t l = value_last w ds g t

same_fraction : (f g : Option (List ℕ)) → IsFractionNeeded f → IsFractionNeeded g → fraction_digits f ≡ fraction_digits g → f ≡ g
same_fraction f g p q e = grind arith

same_length : (w x : List ℕ) (f g : Option (List ℕ)) → AreDigits (fraction_digits f) → AreDigits (fraction_digits g) → IsFractionNeeded f → IsFractionNeeded g → digits_value (w ++ fraction_digits f) * 10 ^ length (fraction_digits g) ≡ digits_value (x ++ fraction_digits g) * 10 ^ length (fraction_digits f) → length (fraction_digits f) ≡ length (fraction_digits g)
same_length w x f g df dg nf ng e =
    let m = digits_value (w ++ fraction_digits f) in
    let n = digits_value (x ++ fraction_digits g) in
    elim (cases_order (length (fraction_digits f)) (length (fraction_digits g))) [
      | inl same ↦ same
      | inr (inl less) ↦ absurd (fraction_longer m n (length (fraction_digits f)) (length (fraction_digits g)) e less (fraction_last x g dg ng (omega arith)))
      | inr (inr more) ↦ absurd (fraction_longer n m (length (fraction_digits g)) (length (fraction_digits f)) (sym e) more (fraction_last w f df nf (omega arith)))
    ]

same_mantissa : (w x : List ℕ) (f g : Option (List ℕ)) → AreDigits w → AreDigits x → AreDigits (fraction_digits f) → AreDigits (fraction_digits g) → IsTrim w → IsTrim x → IsFractionNeeded f → IsFractionNeeded g → digits_value (w ++ fraction_digits f) * 10 ^ length (fraction_digits g) ≡ digits_value (x ++ fraction_digits g) * 10 ^ length (fraction_digits f) → (w ≡ x) × (f ≡ g)
same_mantissa w x f g dw dx df dg tw tx nf ng e =
    let a = fraction_digits f in
    let b = fraction_digits g in
    let l = same_length w x f g df dg nf ng e in
    let n = cancelled (digits_value (w ++ a)) (digits_value (x ++ b)) (length b) (rw l at e) in
    let r = same_from_place (digits_value w) (digits_value a) (digits_value x) (digits_value b) (10 ^ length b) (rw l at (value-below a df)) (value-below b dg)
    (sym (rw l at (value-append w a)) ∙ n ∙ value-append x b) in
    (trim_one w x dw dx tw tx r.0, same_fraction f g nf ng (same_digits a b l df dg r.1))

-- no zero has a minus before it
minus_needed : (w : List ℕ) (f : Option (List ℕ)) → AreDigits w → AreDigits (fraction_digits f) → IsTrim w → IsFractionNeeded f → digits_value (w ++ fraction_digits f) ≡ 0 → (w ≢ 48 ∷ []) ⊎ (f ≢ None) → ⊥
minus_needed w (Some ds) dw df t n z h = value_last w ds df n (ap (λ x. x % 10) z)
minus_needed w None dw df t n z (inr h) = h refl
minus_needed w None dw df t n z (inl h) = h (trim_one w (48 ∷ []) dw refl t (inr refl) (rw append-nil at z))

same_sign : (p q : Parts) → IsSignNeeded p → IsSignNeeded q → (digits_value (mantissa p) ≡ 0 → (p.whole ≢ 48 ∷ []) ⊎ (p.fraction ≢ None) → ⊥) → (digits_value (mantissa q) ≡ 0 → (q.whole ≢ 48 ∷ []) ⊎ (q.fraction ≢ None) → ⊥) → (is_minus p.sign ≡ is_minus q.sign) ⊎ ((digits_value (mantissa p) ≡ 0) × (digits_value (mantissa q) ≡ 0)) → p.sign ≡ q.sign
same_sign p q g h m n e = grind arith

same_size : (p q : Parts) → p.exponent ≡ None → q.exponent ≡ None → SameSize (number_of p) (number_of q) → digits_value (mantissa p) * 10 ^ length (fraction_digits q.fraction) ≡ digits_value (mantissa q) * 10 ^ length (fraction_digits p.fraction)
same_size p q g h e =
    let a : power_up p.exponent + (power_down q.exponent + length (fraction_digits q.fraction)) ≡ length (fraction_digits q.fraction) = omega (arith, ap power_up g, ap power_down h) in
    let b : power_up q.exponent + (power_down p.exponent + length (fraction_digits p.fraction)) ≡ length (fraction_digits p.fraction) = omega (arith, ap power_up h, ap power_down g) in
    ap (λ k. digits_value (mantissa p) * 10 ^ k) (sym a) ∙ e ∙ ap (λ k. digits_value (mantissa q) * 10 ^ k) b

same_parts : (p q : Parts) → p.sign ≡ q.sign → p.whole ≡ q.whole → p.fraction ≡ q.fraction → p.exponent ≡ q.exponent → p ≡ q
same_parts p q a b c d = λ i. record { sign = a i; whole = b i; fraction = c i; exponent = d i }

-- two plain spellings of the same number are one
plain_one : (b c : List ℕ) (g : IsPlain b) (h : IsPlain c) → SameNumber (number_of g.parts) (number_of h.parts) → b ≡ c
plain_one b c g h same =
    let p = g.parts in
    let q = h.parts in
    let dp = digits_parts p.whole (fraction_digits p.fraction) g.spells.1.digits in
    let dq = digits_parts q.whole (fraction_digits q.fraction) h.spells.1.digits in
    let r = same_mantissa p.whole q.whole p.fraction q.fraction dp.0 dq.0 dp.1 dq.1 g.whole h.whole g.fraction h.fraction (same_size p q g.exponent h.exponent same.0) in
    let s = same_sign p q g.sign h.sign (minus_needed p.whole p.fraction dp.0 dp.1 g.whole g.fraction) (minus_needed q.whole q.fraction dq.0 dq.1 h.whole h.fraction) same.1 in
    g.spells.0 ∙ ap parts_text (same_parts p q s r.0 r.1 (g.exponent ∙ sym h.exponent)) ∙ sym h.spells.0

pub plain_denoted_one : (b c : List ℕ) (v : Value) → IsPlain b → IsPlain c → Denotes b (exact v) → Denotes c (exact v) → b ≡ c
plain_denoted_one b c v g h d e =
    let p = parts_one b d.0 g.parts d.1 g.spells in
    let q = parts_one c e.0 h.parts e.1 h.spells in
    let same = transitive (number_of d.0) (exact v) (number_of e.0) d.3 (symmetric (number_of e.0) (exact v) e.3) in
    plain_one b c g h (rw (← p, ← q) same)
