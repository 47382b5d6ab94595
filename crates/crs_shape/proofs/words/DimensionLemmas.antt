-- Dimensions as whole numbers, and as they are read.
use Rattle.std.proofs.Common.{◌≡◌, ℕ, ◌*◌, ◌^◌, ◌<◌, inl, inr, nat_le, Bool, true, List, [], ◌∷◌, refl, subst, arith, leb-true}
use Rattle.std.specs.List.{list_all}
use Rattle.std.proofs.lemmas.Bool.{and_parts}
use Rattle.crs_decimal.specs.inner.Prelude.{Number, SameNumber, whole_number, Value, exact}
use Rattle.crs_shape.specs.Dimensions.{OneIs, IsOneOf, dimensions_of}
use Rattle.crs_shape.specs.declared.class.Class.{Class}
use Rattle.crs_shape.specs.declared.system_type.SystemType.{SystemType}
use Rattle.crs_shape.specs.declared.system_type.SystemType.TheVariants as types
use Rattle.crs_shape.proofs.naming.KeywordTableLemmas.{every-class}

-- no dimension of the table is above 3
abbrev are_small : List ℕ → Bool
are_small ns = list_all (λ n. nat_le n 3) ns

small : (t : SystemType) (c : Class) → are_small (dimensions_of c t) ≡ true
small types.Cartesian c = every-class (λ d. are_small (dimensions_of d types.Cartesian)) refl c
small types.Ellipsoidal c = every-class (λ d. are_small (dimensions_of d types.Ellipsoidal)) refl c
small types.Spherical c = every-class (λ d. are_small (dimensions_of d types.Spherical)) refl c
small types.Vertical c = every-class (λ d. are_small (dimensions_of d types.Vertical)) refl c

none-of : (v : Value) → ((n : ℕ) → n < 2 ^ 64 → ¬ (SameNumber (exact v) (whole_number n))) → (ns : List ℕ) → are_small ns ≡ true → IsOneOf v ns → ⊥
none-of v none [] few h = h
none-of v none (n ∷ ns) few (inl h) = let low = leb-true n 3 (and_parts (nat_le n 3) (are_small ns) few).0 in none n (omega (arith, low)) h
none-of v none (n ∷ ns) few (inr h) = none-of v none ns (and_parts (nat_le n 3) (are_small ns) few).1 h

-- a number that isn't whole is no dimension
pub no-dimension : (c : Class) (t : SystemType) (v : Value) → ((n : ℕ) → n < 2 ^ 64 → ¬ (SameNumber (exact v) (whole_number n))) → IsOneOf v (dimensions_of c t) → ⊥
no-dimension c t v none h = none-of v none (dimensions_of c t) (small t c) h

wholes-same : (m n : ℕ) → SameNumber (whole_number m) (whole_number n) → m ≡ n
wholes-same m n h = let s : m * 1 ≡ n * 1 = h.0 in omega (arith, s)

-- a number is one of some exactly where the whole one that it is is
pub as-whole : (v : Value) (n : ℕ) → SameNumber (exact v) (whole_number n) → (ns : List ℕ) → OneIs (λ m. n ≡ m) ns → IsOneOf v ns
as-whole v n same [] h = h
as-whole v n same (m ∷ ns) (inl e) = let P : ℕ → Type 0 = λ k. SameNumber (exact v) (whole_number k) in inl (subst P e same)
as-whole v n same (m ∷ ns) (inr h) = inr (as-whole v n same ns h)

pub whole-of : ((a b : Number) → SameNumber a b → SameNumber b a) → ((a b c : Number) → SameNumber a b → SameNumber b c → SameNumber a c) →
    (v : Value) (n : ℕ) → SameNumber (exact v) (whole_number n) → (ns : List ℕ) → IsOneOf v ns → OneIs (λ m. n ≡ m) ns
whole-of symmetric transitive v n same [] h = h
whole-of symmetric transitive v n same (m ∷ ns) (inl h) =
    inl (wholes-same n m (transitive (whole_number n) (exact v) (whole_number m) (symmetric (exact v) (whole_number n) same) h))
whole-of symmetric transitive v n same (m ∷ ns) (inr h) = inr (whole-of symmetric transitive v n same ns h)
