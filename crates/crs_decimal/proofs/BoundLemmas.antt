-- Which parts are in bounds, and which number they mean, by what the reader keeps of them.
use Rattle.std.proofs.Common.{◌≡◌, ◌≢◌, ℕ, ◌+◌, ◌*◌, ◌^◌, ◌<◌, ◌≤◌, inl, inr, true, false, if◌then◌else◌, length, refl, sym, ap, subst, ◌∙◌, arith, ℤ}
use Rattle.std.proofs.lemmas.Bool.Decides.{nat_tests}
use Rattle.std.proofs.lemmas.Nat.{pow-add}
use Rattle.std.proofs.Math.Nat.{mul_assoc}
use Rattle.crs_decimal.specs.Numbers.{digits_value, is_minus, Strips, IsBounded, number_of, power_up, power_down, exponent_digits, Parts, AreDigits, mantissa, fraction_digits, SameNumber, Value, exact, up_of, down_of, zero}
use Rattle.crs_decimal.specs.inner.Cut.{IsCut, IsFar, IsPowerBetween}
use Rattle.crs_decimal.specs.declared.mantissa.Mantissa.{Mantissa}
use Rattle.crs_decimal.specs.declared.cutting.Spelled.{Spelled}
use Rattle.crs_decimal.proofs.DigitLemmas.{IsShown, shown, long_least, zero_scaled}
use Rattle.crs_decimal.proofs.PowerLemmas.{strip_one, scaled_grows}

-- what the reader's mantissa shows
cut_shows : (p : Parts) (s : Spelled) → IsCut p s → AreDigits (mantissa p) → IsShown (digits_value (mantissa p)) s.mantissa
cut_shows p s cut d = subst (IsShown (digits_value (mantissa p))) (sym cut.digits) (shown (mantissa p) d)

pub long_unbounded : (p : Parts) (s : Spelled) → IsCut p s → AreDigits (mantissa p) → s.mantissa.is_long ≡ true → ¬ (IsBounded p)
long_unbounded p s cut d e h =
    let l = (rw e at (cut_shows p s cut d)).0 in
    elim h.measured [
      | inl z ↦ absurd (omega (arith, long_least (digits_value (mantissa p)) l))
      | inr (y, k, u, v, w, g) ↦ absurd (omega (arith, (strip_one l.0 l.1 y k (sym l.2.0 ∙ u.0) l.2.1 u.1).0, l.3))
    ]

-- a short mantissa that isn't zero is stripped, and at most 38 digits
pub short_strips : (p : Parts) (s : Spelled) → IsCut p s → AreDigits (mantissa p) → s.mantissa.is_long ≡ false → s.mantissa.digits ≢ 0 →
    Strips (digits_value (mantissa p)) s.mantissa.digits s.mantissa.zeros × (s.mantissa.digits < 10 ^ 38)
short_strips p s cut d e ne = let t = rw e at (cut_shows p s cut d) in ((t.0, grind (arith, t.2)), t.1)

pub short_zero : (p : Parts) (s : Spelled) → IsCut p s → AreDigits (mantissa p) → s.mantissa.is_long ≡ false → s.mantissa.digits ≡ 0 →
    digits_value (mantissa p) ≡ 0
short_zero p s cut d e z = (rw e at (cut_shows p s cut d)).0 ∙ zero_scaled s.mantissa.digits s.mantissa.zeros z

pub strips_positive : (n m k : ℕ) → Strips n m k → 0 < n
strips_positive n m k t = let least : m * 1 ≤ m * 10 ^ k = scaled_grows m 0 k (omega arith) in omega (arith, t.0, t.1)

power_near : (a b : ℕ) (power : ℤ) → IsPowerBetween a b power → (b ≤ a + 40) × (a ≤ b + 40)
power_near a b power h = grind (arith, nat_tests)

pub far_unbounded : (p : Parts) (m : Mantissa) → Strips (digits_value (mantissa p)) m.digits m.zeros → IsFar (power_up p.exponent + m.zeros) (power_down p.exponent + length (fraction_digits p.fraction)) → ¬ (IsBounded p)
far_unbounded p m t far h =
    elim h.measured [
      | inl z ↦ absurd (omega (arith, strips_positive (digits_value (mantissa p)) m.digits m.zeros t))
      | inr (y, k, u, v, w, x) ↦ let same = strip_one m.digits m.zeros y k (sym t.0 ∙ u.0) t.1 u.1 in absurd (omega (arith, same.1, far))
    ]

pub near_bounded : (p : Parts) (m : Mantissa) (power : ℤ) → Strips (digits_value (mantissa p)) m.digits m.zeros → m.digits < 10 ^ 38 → length (mantissa p) ≤ 100 → length (exponent_digits p.exponent) ≤ 3 → IsPowerBetween (power_up p.exponent + m.zeros) (power_down p.exponent + length (fraction_digits p.fraction)) power → IsBounded p
near_bounded p m power t l a b near =
    let h = power_near (power_up p.exponent + m.zeros) (power_down p.exponent + length (fraction_digits p.fraction)) power near in
    record {
      mantissa_digits = a;
      exponent_digits = b;
      measured = inr (m.digits, m.zeros, t, l, h.0, h.1);
    }

-- a number scaled two ways
pub same_scaled : (n m z a b : ℕ) → n ≡ m * 10 ^ z → b ≡ z + a → n * 10 ^ a ≡ m * 10 ^ b
same_scaled n m z a b e f =
    ap (λ x. x * 10 ^ a) e ∙ mul_assoc m (10 ^ z) (10 ^ a) ∙ ap (λ x. m * x) (sym (pow-add 10 z a)) ∙ ap (λ x. m * 10 ^ x) (sym f)

pub near_same : (p : Parts) (m : Mantissa) (v : Value) → digits_value (mantissa p) ≡ m.digits * 10 ^ m.zeros → v.digits ≡ m.digits → v.negative ≡ is_minus p.sign → IsPowerBetween (power_up p.exponent + m.zeros) (power_down p.exponent + length (fraction_digits p.fraction)) v.power → SameNumber (number_of p) (exact v)
near_same p m v e d g near =
    let up = power_up p.exponent in
    let down = power_down p.exponent + length (fraction_digits p.fraction) in
    let powers : up_of v.power + down ≡ m.zeros + (up + down_of v.power) = omega (arith, near.1) in
    (same_scaled (digits_value (mantissa p)) m.digits m.zeros (up + down_of v.power) (up_of v.power + down) e powers ∙ ap (λ x. x * 10 ^ (up_of v.power + down)) (sym d), inl (sym g))

pub zero_same : (p : Parts) → digits_value (mantissa p) ≡ 0 → SameNumber (number_of p) (exact zero)
zero_same p e = (zero_scaled (digits_value (mantissa p)) (power_up p.exponent + 0) e ∙ sym (zero_scaled 0 (0 + (power_down p.exponent + length (fraction_digits p.fraction))) refl), inr (e, refl))

pub zero_bounded : (p : Parts) → digits_value (mantissa p) ≡ 0 → length (mantissa p) ≤ 100 → length (exponent_digits p.exponent) ≤ 3 → IsBounded p
zero_bounded p e a b = record { mantissa_digits = a; exponent_digits = b; measured = inl e }

-- the powers and the fraction that the reader keeps are those of the parts
pub at_powers : (P : ℕ → ℕ → Type 0) (p : Parts) (s : Spelled) (up down : ℕ) → IsCut p s → up ≡ (if s.below then 0 else digits_value s.exponent.now) →
    down ≡ (if s.below then digits_value s.exponent.now else 0) → P (up + s.mantissa.zeros) (down + s.fraction) →
    P (power_up p.exponent + s.mantissa.zeros) (power_down p.exponent + length (fraction_digits p.fraction))
at_powers P p s up down cut u d h = rw (u, d, cut.below, cut.exponent_digits, cut.fraction_digits) at h
