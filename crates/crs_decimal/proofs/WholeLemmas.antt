-- The test that a number is this whole one.
use Rattle.std.proofs.Common.{◌≡◌, ℕ, ◌*◌, ◌↔◌, IsTrue, nat_eq, arith}
use Rattle.crs_decimal.specs.Numbers.{Number, SameNumber, whole_number, Value, exact}
use Rattle.std.proofs.lemmas.Bool.{eq-eqb, eqb-true}

pub wholes-same : (m n : ℕ) → SameNumber (whole_number m) (whole_number n) → m ≡ n
wholes-same m n h = let s : m * 1 ≡ n * 1 = h.0 in omega (arith, s)

pub whole-test : ((a b : Number) → SameNumber a b → SameNumber b a) → ((a b c : Number) → SameNumber a b → SameNumber b c → SameNumber a c) →
    (v : Value) (m n : ℕ) → SameNumber (exact v) (whole_number m) → IsTrue (nat_eq m n) ↔ SameNumber (exact v) (whole_number n)
whole-test symmetric transitive v m n h = (
  λ e. rw (eqb-true m n e) at h,
  λ k. eq-eqb m n (wholes-same m n (transitive (whole_number m) (exact v) (whole_number n) (symmetric (exact v) (whole_number m) h) k)),
)
