-- Whole numbers, and decimals that are zero.
use Rattle.std.proofs.Common.{◌≡◌, ◌↔◌, ℕ, zero, suc, ◌+◌, ◌*◌, ◌^◌, ◌==◌, ◌<◌, true, inr, refl, sym, ap, ◌∙◌, arith}
use Rattle.std.proofs.Math.Dec.{eqb-suc-zero}
use Rattle.std.proofs.Math.Nat.{mul-lt-mul_of_pos_right, one-le-pow}
use Rattle.std.proofs.lemmas.Bool.{eqb-true}
use Rattle.crs_decimal.specs.inner.Prelude.{SameNumber, whole_number, Value, up_of}
use Rattle.crs_same.specs.inner.Prelude.{IsZero, SameValue}

pub wholes-same : (m n : ℕ) → SameNumber (whole_number m) (whole_number n) → m ≡ n
wholes-same m n h = let s : m * 1 ≡ n * 1 = h.0 in omega (arith, s)

-- ---- zero

no-digits : (d k : ℕ) → d * 10 ^ k ≡ 0 → d ≡ 0
no-digits zero k e = refl
no-digits (suc d) k e =
    let ten : 0 < 10 ^ k = one-le-pow k 10 (omega arith) in
    let some : 0 * 10 ^ k < suc d * 10 ^ k = mul-lt-mul_of_pos_right (omega arith) ten in
    absurd (omega (arith, some, e))

alike : (d e k l : ℕ) → d * 10 ^ k ≡ e * 10 ^ l → (d == 0) ≡ (e == 0)
alike zero zero k l same = refl
alike zero (suc e) k l same = let none : suc e ≡ 0 = no-digits (suc e) l (omega (arith, same)) in absurd (omega (arith, none))
alike (suc d) zero k l same = let none : suc d ≡ 0 = no-digits (suc d) k (omega (arith, same)) in absurd (omega (arith, none))
alike (suc d) (suc e) k l same = eqb-suc-zero d ∙ sym (eqb-suc-zero e)

-- the same number is zero in both or in neither
pub zero-in-both : (a b : Value) → SameValue a b → (a.digits == 0) ≡ (b.digits == 0)
unfolding SameValue
zero-in-both a b same = alike a.digits b.digits _ _ same.0

scaled : (d x y : ℕ) → d ≡ 0 → d * x ≡ 0 * y
scaled d x y e = let f : d * x ≡ 0 * x = ap (λ n. n * x) e in omega (arith, f)

-- a decimal without digits is zero, and no other is
pub zero-is : (value : Value) → ((value.digits == 0) ≡ true) ↔ IsZero value
zero-is value = (
  λ e. let none : value.digits ≡ 0 = eqb-true value.digits 0 e in (scaled value.digits _ _ none, inr (none, refl)),
  λ is. ap (λ d. d == 0) (no-digits value.digits (up_of value.power + 0) (omega (arith, is.0))),
)
