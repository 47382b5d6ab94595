-- A compound's horizontal part, and its dimension.
use Rattle.std.proofs.Common.{◌≡◌, ℕ, Bool, true, false, not, Some, None, List, IsTrue, ◌↔◌, refl, sym, subst}
use Rattle.crs_decimal.specs.inner.Prelude.{SameNumber, whole_number, Value, exact}
use Rattle.crs_text.specs.inner.Prelude.{Item, arguments, RefusedAt}
use Rattle.crs_shape.specs.declared.class.Class.{Class}
use Rattle.crs_shape.specs.declared.class.Class.TheVariants as class
use Rattle.crs_value.specs.Checks.{IsNotPlane, IsNotHorizontal, BadComponent, at, FirstIs, IsLeast}
use Rattle.crs_value.specs.Reading.{those}
use Rattle.crs_value.specs.inner.Arguments.{item_at, IsFound}
use Rattle.crs_value.specs.Reads.{HasDimension}
use Rattle.crs_value.proofs.checked.CheckLemmas.{DenotesOne, dimension-is-one}
use Rattle.crs_value.proofs.checked.LeastLemmas.{least-at}

abbrev IsTwo : Value → Type 0
IsTwo v = SameNumber (exact v) (whole_number 2)

true-not : (b : Bool) → not b ≡ true → b ≡ true → ⊥
true-not true e f = cc
true-not false e f = cc

not-true : (b : Bool) → (b ≡ true → ⊥) → not b ≡ true
not-true true other = absurd (other refl)
not-true false other = refl

pub plane-test : DenotesOne → (cs : Item) (v : Value) (b : Bool) → HasDimension cs v → (IsTrue b ↔ IsTwo v) → IsTrue (not b) ↔ IsNotPlane cs
plane-test law cs v b has test = (λ e. (v, (has, λ two. true-not b e (test.1 two))), λ h. not-true b (λ e. h.1.1 (two-of h.0 h.1.0 (test.0 e))))
  where
    two-of : (w : Value) → HasDimension cs w → IsTwo v → IsTwo w
    two-of w other two = subst IsTwo (dimension-is-one law cs v w has other) two

-- a part is refused where its first node `CS` is one that it may not have
pub part-bad : (tree part : Item) (c : Class) (cs : ℕ) (r : RefusedAt) → IsFound tree c class.CoordinateSystem (those c class.CoordinateSystem (arguments part)) (Some cs) → r ≡ at 24 part →
    IsNotHorizontal c (item_at tree cs) → IsLeast (BadComponent c part) (Some r)
part-bad tree part c cs r found e bad =
    let Is : List Item → Type 0 = λ xs. FirstIs (IsNotHorizontal c) xs in
    least-at (at 24 part) r (Is (those c class.CoordinateSystem (arguments part))) e (subst Is (sym found.0) bad)

pub part-fine : (tree part : Item) (c : Class) (cs : ℕ) → IsFound tree c class.CoordinateSystem (those c class.CoordinateSystem (arguments part)) (Some cs) →
    (IsNotHorizontal c (item_at tree cs) → ⊥) → IsLeast (BadComponent c part) None
part-fine tree part c cs found fine = λ f h. let Is : List Item → Type 0 = λ xs. FirstIs (IsNotHorizontal c) xs in fine (subst Is found.0 h.1)
