-- A coordinate system has one to three dimensions.
use Rattle.std.proofs.Common.{◌≡◌, ℕ, ◌≤◌, ◌*◌, List, [], ◌∷◌, inl, inr, arith}
use Rattle.crs_decimal.specs.inner.Prelude.{Number, SameNumber, whole_number, Value, exact}
use Rattle.crs_shape.specs.declared.class.Class.TheVariants as class
use Rattle.crs_shape.specs.declared.system_type.SystemType.{SystemType}
use Rattle.crs_shape.specs.inner.Prelude.{IsOneOf, dimensions_of}
use Rattle.crs_value.specs.Sound.{Each}

abbrev pub AreSmall : List ℕ → Type 0
AreSmall ns = Each (λ n. n ≤ 3) ns

pub small-geodetic : (t : SystemType) → AreSmall (dimensions_of class.GeodeticCrs t)
small-geodetic t = grind arith

pub small-geographic : (t : SystemType) → AreSmall (dimensions_of class.GeographicCrs t)
small-geographic t = grind arith

pub small-projected : (t : SystemType) → AreSmall (dimensions_of class.ProjectedCrs t)
small-projected t = grind arith

pub small-vertical : (t : SystemType) → AreSmall (dimensions_of class.VerticalCrs t)
small-vertical t = grind arith

-- a number that is one of a few small ones and is this whole number too is small
pub few-axes : ((a b : Number) → SameNumber a b → SameNumber b a) →
    ((a b c : Number) → SameNumber a b → SameNumber b c → SameNumber a c) → (v : Value) (n : ℕ) (ns : List ℕ) →
    AreSmall ns → IsOneOf v ns → SameNumber (exact v) (whole_number n) → n ≤ 3
few-axes symmetric transitive v n [] few h s = absurd h
few-axes symmetric transitive v n (m ∷ ns) few (inl h) s =
    let t : SameNumber (whole_number n) (whole_number m) =
    transitive (whole_number n) (exact v) (whole_number m) (symmetric (exact v) (whole_number n) s) h in
    let e : n * 1 ≡ m * 1 = t.0 in
    let k : m ≤ 3 = few.0 in
    omega arith
few-axes symmetric transitive v n (m ∷ ns) few (inr h) s = few-axes symmetric transitive v n ns few.1 h s
