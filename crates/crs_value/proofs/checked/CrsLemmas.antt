-- The checks of a CRS that has a coordinate system: those of its axes have the highest numbers.
use Rattle.std.proofs.Common.{◌≡◌, ℕ, ◌<◌, ◌≤◌, ◌++◌, inl, inr, ◌⊎◌, ⊎_elim, Option, Some, List, [], ◌∷◌, subst, ap, arith}
use Rattle.crs_text.specs.inner.Prelude.{Item, arguments, RefusedAt}
use Rattle.crs_shape.specs.declared.class.Class.{Class}
use Rattle.crs_shape.specs.declared.class.Class.TheVariants as class
use Rattle.crs_shape.specs.inner.Prelude.{dimensions_of}
use Rattle.crs_value.specs.Checks.{BadDynamic, IsUnsteady, BadOrders, BadOrder, LacksOrder, IsBadOrder, orders_in, BadOwnUnit, Misfits, HasOwnUnit, IsSuperfluous, BadUnit, units_in, at, AnyOf, IsLeast, OfAxes, OfHead, once, OfCrs, BreaksAmong, RepeatsAny}
use Rattle.crs_value.specs.inner.Arguments.{lesser}
use Rattle.crs_value.specs.Reading.{those}
use Rattle.crs_value.proofs.checked.LeastLemmas.{least-same, least-below, either-is}

at-high : (n : ℕ) (item : Item) (f : RefusedAt) → f ≡ at n item → n ≤ f.number
at-high n item f e = let same : f.number ≡ n = ap (λ r. r.number) e in omega arith

module _ (B : Item → RefusedAt → Type 0) (n : ℕ) (high : (item : Item) (f : RefusedAt) → B item f → n ≤ f.number) where
  any-high : (items : List Item) (f : RefusedAt) → AnyOf B items f → n ≤ f.number
  any-high [] f h = absurd h
  any-high (item ∷ items) f (inl h) = high item f h
  any-high (item ∷ items) f (inr h) = any-high items f h

orders-high : (n : ℕ) (before axes : List Item) (f : RefusedAt) → BadOrders n before axes f → 26 ≤ f.number
orders-high n before [] f h = absurd h
orders-high n before (axis ∷ axes) f (inl h) = any-high (IsBadOrder n before) 26 (λ i g x. at-high 26 i g x.0) (orders_in axis) f h
orders-high n before (axis ∷ axes) f (inr h) = orders-high n (before ++ axis ∷ []) axes f h

order-high : (axes : List Item) (f : RefusedAt) → BadOrder axes f → 26 ≤ f.number
order-high axes f = ⊎_elim (λ h. any-high LacksOrder 26 (λ i g x. at-high 26 i g x.0) axes f h.1) (λ h. orders-high _ [] axes f h.1)

own-high : (cs axis : Item) (f : RefusedAt) → BadOwnUnit cs axis f → 27 ≤ f.number
own-high cs axis f = ⊎_elim (λ h. at-high 27 axis f h.0) (any-high (Misfits cs axis) 27 (λ i g x. at-high 27 i g x.0) (units_in axis) f)

unit-high : (axes units : List Item) (cs : Item) (f : RefusedAt) → BadUnit axes units cs f → 27 ≤ f.number
unit-high axes [] cs f h = any-high (BadOwnUnit cs) 27 (λ i g x. own-high cs i g x) axes f h
unit-high axes (unit ∷ units) cs f (inl h) =
    any-high HasOwnUnit 27 (λ i g x. any-high IsSuperfluous 27 (λ u k y. at-high 27 u k y) (units_in i) g x) axes f h
unit-high axes (unit ∷ units) cs f (inr h) = at-high 27 unit f h.0

axes-high : (systems axes units : List Item) (f : RefusedAt) → OfAxes systems axes units f → 26 ≤ f.number
axes-high systems axes units f =
    ⊎_elim (order-high axes f)
    (λ h. let high : 27 ≤ f.number = any-high (BadUnit axes units) 27 (λ i g x. unit-high axes units i g x) systems f h in omega (arith, high))

dynamic-high : (c : Class) (item : Item) (f : RefusedAt) → BadDynamic c item f → 26 ≤ f.number
dynamic-high c item f h =
    let high : 29 ≤ f.number = any-high IsUnsteady 29 (λ i g x. at-high 29 i g x) (those c class.Dynamic (arguments item)) f h.1 in
    omega (arith, high)

module _ (c : Class) (item : Item) where
  abbrev axes : List Item
  axes = those c class.Axis (arguments item)

  abbrev units : List Item
  units = those c class.AxisUnit (arguments item)

  abbrev systems : List Item
  systems = those c class.CoordinateSystem (arguments item)

  -- repeated parts and the nodes `CS`
  abbrev pub Head : RefusedAt → Type 0
  Head f = RepeatsAny c (arguments item) once f ⊎ AnyOf (OfHead (dimensions_of c) axes) systems f

  abbrev pub Axes : RefusedAt → Type 0
  Axes f = OfAxes systems axes units f ⊎ BadDynamic c item f

  abbrev Inside : RefusedAt → Type 0
  Inside f = BreaksAmong c (arguments item) f

  abbrev Found : RefusedAt → Type 0
  Found f = Inside f ⊎ Head f

  abbrev Whole : RefusedAt → Type 0
  Whole f = Inside f ⊎ OfCrs (dimensions_of c) c item f

  to : (f : RefusedAt) → Found f ⊎ Axes f → Whole f
  to f = ⊎_elim (⊎_elim (λ h. inl h) (⊎_elim (λ h. inr (inl h)) (λ h. inr (inr (inl (inl h)))))) (⊎_elim (λ h. inr (inr (inl (inr h)))) (λ h. inr (inr (inr h))))

  back : (f : RefusedAt) → Whole f → Found f ⊎ Axes f
  back f =
      ⊎_elim (λ h. inl (inl h))
      (⊎_elim (λ h. inl (inr (inl h))) (⊎_elim (⊎_elim (λ h. inl (inr (inr h))) (λ h. inr (inl h))) (λ h. inr (inr h))))

  pub crs-early : (a b r : Option RefusedAt) (first : RefusedAt) → r ≡ lesser a b → IsLeast Inside a → IsLeast Head b → r ≡ Some first → first.number < 26 → IsLeast Whole (Some first)
  crs-early a b r first e inside head is below =
      let P : Option RefusedAt → Type 0 = λ o. IsLeast Found o in
      least-same (λ f. Found f ⊎ Axes f) Whole (Some first) to back
      (least-below Found Axes 26 first below (λ f. ⊎_elim (axes-high systems axes units f) (dynamic-high c item f)) (subst P is (either-is Inside Head a b r e inside head)))

  pub crs-whole : (a b r d s : Option RefusedAt) → r ≡ lesser a b → s ≡ lesser r d → IsLeast Inside a → IsLeast Head b → IsLeast Axes d → IsLeast Whole s
  crs-whole a b r d s e g inside head of_axes =
      least-same (λ f. Found f ⊎ Axes f) Whole s to back
      (either-is Found Axes r d s g (either-is Inside Head a b r e inside head) of_axes)
