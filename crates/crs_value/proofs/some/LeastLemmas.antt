-- In an item of its shape some check is broken first, or none is.
use Rattle.std.proofs.Common.{◌≡◌, ◌≢◌, ℕ, ◌⊎◌, ⊎_elim, inl, inr, length, take, drop, true, Option, Some, None, List, [], ◌∷◌, ◌++◌, refl, sym, subst, arith}
use Rattle.crs_decimal.specs.inner.Prelude.{SameNumber, whole_number, Value, exact}
use Rattle.crs_text.specs.inner.Prelude.{Item, leaf, node, Siblings, End, More, arguments, raw_of, RefusedAt, AreAllFormed}
use Rattle.crs_shape.specs.declared.class.Class.{Class}
use Rattle.crs_shape.specs.declared.class.Class.TheVariants as class
use Rattle.crs_shape.specs.inner.Prelude.{AreShaped, class_in, IsOneOf, dimensions_of, asked_kind, unit_word}
use Rattle.crs_shape.specs.declared.system_type.SystemType.{SystemType}
use Rattle.crs_shape.specs.declared.system_type.SystemType.TheVariants as types
use Rattle.crs_shape.specs.declared.unit_kind.UnitKind.{UnitKind}
use Rattle.crs_shape.specs.declared.unit_kind.UnitKind.TheVariants as kinds
use Rattle.crs_value.specs.Checks.{IsAboveZero, NotAbove, IsNegative, AxisCount, orders_in, ReadsOrder, IsPosition, HasThis, OneHas, IsBadOrder, BadOrders, BadOrder, IsNotEllipsoidal, IsNotPlane, IsNotHorizontal, BadComponent, BadComponents, BadSystem, Asks, Fits, units_in, Misfits, BadOwnUnit, HasOwnUnit, AllAsk, BadUnit, at, AnyOf, FirstIs, IsLeast, BadDynamic, anchors, once, OfHead, OfCrs, OfUnit, OfEllipsoid, Own, AtClass, Breaks, BreaksAmong, horizontal_classes, RepeatsAny}
use Rattle.crs_value.specs.inner.Arguments.{lesser}
use Rattle.crs_value.specs.Reading.{Each, those, ReadsFirst}
use Rattle.crs_value.specs.Reads.{HasType, HasDimension, ReadsNumber, ReadsType, ReadsDirection}
use Rattle.crs_value.proofs.checked.CheckLemmas.{DenotesOne, number-one, order-one, first-one, type-is-one, dimension-is-one}
use Rattle.crs_value.proofs.some.DecisionLemmas.{Decided, Known, decided-as, decided-both, decided-either, decided-not, decided-some, decided-this, decided-word, type-known, direction-known, decided-kind, decided-kinds, decided-none, whether-ellipsoidal, decided-bool, decided-same, decided-value, decided-one, decided-one-of, decided-each, decided-position, decided-above}
use Rattle.crs_value.specs.Spells.{IsFrom}
use Rattle.crs_value.proofs.checked.LeastLemmas.{least-same, least-either, least-one, least-is}
use Rattle.crs_value.proofs.checked.PlaceLemmas.{Within, AreWithin, Fine, fine-as, place-within, arguments-within}
use Rattle.crs_value.proofs.some.FormedLemmas.{Numbers, Ready, AllReady, those-ready, those-within, number-some, first-known}
use Rattle.crs_value.proofs.found.ArgumentLemmas.{each-drop, each-first, each-on}
use Rattle.crs_value.proofs.checked.UnitLemmas.{asks-one}

-- one fault is the first, or there is none; and each has the number of a check and a place within a text of this length
abbrev pub HasLeast : ℕ → (RefusedAt → Type 0) → Type 0
HasLeast total P = ((f : RefusedAt) → P f → Fine 21 29 total f) × ((o : Option RefusedAt) × IsLeast P o)

decided-first : {R : Item → Type 0} (P : Item → Type 0) → ((item : Item) → R item → Decided (P item)) → (items : List Item) → Each R items → Decided (FirstIs P items)
decided-first P one [] h = inr (λ x. x)
decided-first P one (item ∷ items) h = one item h.0

module _ (total : ℕ) (numbers : Numbers) (one : DenotesOne) where
  nothing : {P : RefusedAt → Type 0} → ((f : RefusedAt) → ¬ (P f)) → HasLeast total P
  nothing none = (λ f h. absurd (none f h), (None, none))

  either-least : {P Q : RefusedAt → Type 0} → HasLeast total P → HasLeast total Q → HasLeast total (λ f. P f ⊎ Q f)
  either-least {P} {Q} p q = (λ f. ⊎_elim (p.0 f) (q.0 f), (lesser p.1.0 q.1.0, least-either P Q p.1.0 q.1.0 p.1.1 q.1.1))

  fine-at : (n : ℕ) (item : Item) → IsFrom 21 29 n → Within total item → (f : RefusedAt) → f ≡ at n item → Fine 21 29 total f
  fine-at n item from within f e = fine-as 21 29 total f (at n item) e (from, place-within total item within)

  at-least : (n : ℕ) (item : Item) {C : Type 0} → IsFrom 21 29 n → Within total item → Decided C → HasLeast total (λ f. (f ≡ at n item) × C)
  at-least n item {C} from within (inl holds) = (λ f h. fine-at n item from within f h.0, (Some (at n item), least-one (at n item) C holds))
  at-least n item from within (inr fails) = nothing (λ f h. fails h.1)

  sure-least : (n : ℕ) → IsFrom 21 29 n → (item : Item) → Within total item → HasLeast total (λ f. f ≡ at n item)
  sure-least n from item within = (fine-at n item from within, (Some (at n item), least-is (at n item) (at n item) refl))

  under-least : {C : Type 0} {P : RefusedAt → Type 0} → Decided C → HasLeast total P → HasLeast total (λ f. C × P f)
  under-least {C} {P} (inl holds) h = (λ f x. h.0 f x.1, (h.1.0, least-same P (λ f. C × P f) h.1.0 (λ f x. (holds, x)) (λ f x. x.1) h.1.1))
  under-least (inr fails) h = nothing (λ f x. fails x.0)

  any-least : {R : Item → Type 0} {B : Item → RefusedAt → Type 0} → ((item : Item) → R item → HasLeast total (B item)) → (items : List Item) → Each R items → HasLeast total (AnyOf B items)
  any-least each [] h = nothing (λ f x. x)
  any-least each (item ∷ items) h = either-least (each item h.0) (any-least each items h.1)

  -- ---- words

  unknown : {V : Type 0} {R : V → Type 0} (item : Item) → Within total item → Known R → HasLeast total (λ f. (f ≡ at 21 item) × ((value : V) → ¬ (R value)))
  unknown item within (inl found) = at-least 21 item (omega arith) within (inr (λ none. none found.0 found.1))
  unknown item within (inr none) = at-least 21 item (omega arith) within (inl none)

  -- ---- repeated parts

  repeats-least : (parent : Class) (items : Siblings) → AreWithin total items → (cs : List Class) → HasLeast total (RepeatsAny parent items cs)
  repeats-least parent items h [] = nothing (λ f x. x)
  repeats-least parent items h (c ∷ cs) =
      either-least
      (any-least (sure-least 22 (omega arith)) (drop 1 (those parent c items)) (each-drop (Within total) 1 (those parent c items) (those-within total parent c items h)))
      (repeats-least parent items h cs)

  -- ---- systems

  system-type : (cs : Item) → Ready total class.CoordinateSystem cs → Known (HasType cs)
  system-type cs h =
      first-known ReadsType (Ready total class.Word) (λ i r. type-known (raw_of i)) (those class.CoordinateSystem class.Word (arguments cs)) (those-ready total class.CoordinateSystem class.Word cs h)

  number-known : (item : Item) → Ready total class.Number item → Known (ReadsNumber item)
  number-known item h = inl (number-some numbers item h.shaped h.formed)

  dimension : (cs : Item) → Ready total class.CoordinateSystem cs → Known (HasDimension cs)
  dimension cs h =
      first-known ReadsNumber (Ready total class.Number) number-known (those class.CoordinateSystem class.Number (arguments cs)) (those-ready total class.CoordinateSystem class.Number cs h)

  system-least : (dims : SystemType → List ℕ) (cs : Item) → Ready total class.CoordinateSystem cs → HasLeast total (BadSystem dims cs)
  system-least dims cs h =
      at-least 23 cs (omega arith) h.within
      (decided-as (λ x. (x.0, (x.1.1.0, (x.1.0, x.1.1.1.0, x.1.1.1.1)))) (λ x. (x.0, (x.1.1.0, (x.1.0, (x.1.1.1, x.1.1.2)))))
      (decided-some (HasType cs) (λ t. (v : Value) × (HasDimension cs v × ¬ (IsOneOf v (dims t)))) (type-is-one cs) (system-type cs h)
      (λ t r. decided-some (HasDimension cs) (λ v. ¬ (IsOneOf v (dims t))) (dimension-is-one one cs) (dimension cs h) (λ v x. decided-not (decided-one-of v (dims t))))))

  count-least : (axes : ℕ) (cs : Item) → Ready total class.CoordinateSystem cs → HasLeast total (AxisCount axes cs)
  count-least axes cs h =
      at-least 25 cs (omega arith) h.within
      (decided-some (HasDimension cs) (λ v. ¬ (SameNumber (exact v) (whole_number axes))) (dimension-is-one one cs) (dimension cs h)
      (λ v x. decided-not (decided-same (exact v) (whole_number axes))))

  -- ---- a compound's parts

  decided-plane : (cs : Item) → Ready total class.CoordinateSystem cs → Decided (IsNotPlane cs)
  decided-plane cs h =
      decided-some (HasDimension cs) (λ v. ¬ (SameNumber (exact v) (whole_number 2))) (dimension-is-one one cs) (dimension cs h) (λ v x. decided-not (decided-same (exact v) (whole_number 2)))

  decided-ellipsoidal : (cs : Item) → Ready total class.CoordinateSystem cs → Decided (IsNotEllipsoidal cs)
  decided-ellipsoidal cs h = decided-some (HasType cs) (λ t. t ≢ types.Ellipsoidal) (type-is-one cs) (system-type cs h) (λ t x. decided-not (whether-ellipsoidal t))

  decided-horizontal : (c : Class) (cs : Item) → Ready total class.CoordinateSystem cs → Decided (IsNotHorizontal c cs)
  decided-horizontal class.GeodeticCrs cs h = decided-either (decided-ellipsoidal cs h) (decided-plane cs h)
  decided-horizontal class.GeographicCrs cs h = decided-either (decided-ellipsoidal cs h) (decided-plane cs h)
  decided-horizontal other cs h = decided-plane cs h

  part-least : (c : Class) (part : Item) → Ready total c part → HasLeast total (BadComponent c part)
  part-least c part h =
      at-least 24 part (omega arith) h.within
      (decided-first (IsNotHorizontal c) (decided-horizontal c) (those c class.CoordinateSystem (arguments part)) (those-ready total c class.CoordinateSystem part h))

  parts-least : (cs : List Class) (item : Item) → Ready total class.CompoundCrs item → HasLeast total (BadComponents cs (arguments item))
  parts-least [] item h = nothing (λ f x. x)
  parts-least (c ∷ cs) item h =
      either-least (any-least (part-least c) (those class.CompoundCrs c (arguments item)) (those-ready total class.CompoundCrs c item h)) (parts-least cs item h)

  -- ---- orders

  order-number : (order : Item) → Ready total class.Order order → Known (ReadsOrder order)
  order-number order h = first-known ReadsNumber (Ready total class.Number) number-known (those class.Order class.Number (arguments order)) (those-ready total class.Order class.Number order h)

  decided-has : (value : Value) (axis : Item) → Ready total class.Axis axis → Decided (HasThis value axis)
  decided-has value axis h =
      decided-this (λ v. ReadsFirst ReadsOrder (orders_in axis) v) value (λ a b p q. first-one ReadsOrder (order-one one) (orders_in axis) a b p q)
      (first-known ReadsOrder (Ready total class.Order) order-number (orders_in axis) (those-ready total class.Axis class.Order axis h)) (λ v. decided-value v value)

  decided-before : (value : Value) (axes : List Item) → AllReady total class.Axis axes → Decided (OneHas value axes)
  decided-before value [] h = inr (λ x. x)
  decided-before value (axis ∷ axes) h = decided-either (decided-has value axis h.0) (decided-before value axes h.1)

  order-least : (n : ℕ) (before : List Item) → AllReady total class.Axis before → (order : Item) → Ready total class.Order order → HasLeast total (IsBadOrder n before order)
  order-least n before h order r =
      at-least 26 order (omega arith) r.within
      (decided-some (ReadsOrder order) (λ v. ¬ (IsPosition n v) ⊎ OneHas v before) (order-one one order) (order-number order r)
      (λ v x. decided-either (decided-not (decided-position n v)) (decided-before v before h)))

  orders-least : (n : ℕ) (before axes : List Item) → AllReady total class.Axis before → AllReady total class.Axis axes → HasLeast total (BadOrders n before axes)
  orders-least n before [] h g = nothing (λ f x. x)
  orders-least n before (axis ∷ axes) h g =
      either-least (any-least (order-least n before h) (orders_in axis) (those-ready total class.Axis class.Order axis g.0))
      (orders-least n (before ++ axis ∷ []) axes (each-on (Ready total class.Axis) before axis h g.0) g.1)

  bad-order-least : (axes : List Item) → AllReady total class.Axis axes → HasLeast total (BadOrder axes)
  bad-order-least axes h =
      either-least (under-least (decided-one (λ a. orders_in a ≢ []) (λ a. decided-not (decided-none (orders_in a))) axes) (any-least (λ i r. at-least 26 i (omega arith) r.within (decided-none (orders_in i))) axes h))
      (under-least (decided-each (λ a. orders_in a ≢ []) (λ a. decided-not (decided-none (orders_in a))) axes) (orders-least (length axes) [] axes tt h))

  -- ---- units

  asks-known : (cs axis : Item) → Ready total class.CoordinateSystem cs → Ready total class.Axis axis → Known (Asks cs axis)
  asks-known cs axis h g =
      by (system-type cs h)
      (first-known ReadsDirection (Ready total class.Word) (λ i r. direction-known (raw_of i)) (those class.Axis class.Word (arguments axis)) (those-ready total class.Axis class.Word axis g))
    where
      by : Known (HasType cs) → Known (λ d. ReadsFirst ReadsDirection (those class.Axis class.Word (arguments axis)) d) → Known (Asks cs axis)
      by (inl t) (inl d) = inl (asked_kind t.0 d.0, (t.0, (d.0, (t.1, d.1, refl))))
      by (inl t) (inr none) = inr (λ k x. none x.1.0 x.1.1.1)
      by (inr none) d = inr (λ k x. none x.0 x.1.1.0)

  decided-fits : (unit : Item) (kind : UnitKind) → Decided (Fits unit kind)
  decided-fits unit kind = decided-either (decided-word (raw_of unit) (unit_word kinds.Plain)) (decided-word (raw_of unit) (unit_word kind))

  decided-asks : (cs axis : Item) (kind : UnitKind) → Ready total class.CoordinateSystem cs → Ready total class.Axis axis → Decided (Asks cs axis kind)
  decided-asks cs axis kind h g = decided-this (Asks cs axis) kind (asks-one cs axis) (asks-known cs axis h g) (λ k. decided-kind k kind)

  decided-all-ask : (cs : Item) (axes : List Item) (kind : UnitKind) → Ready total class.CoordinateSystem cs → AllReady total class.Axis axes → Decided (AllAsk cs axes kind)
  decided-all-ask cs [] kind h g = inl tt
  decided-all-ask cs (axis ∷ axes) kind h g = decided-both (decided-asks cs axis kind h g.0) (decided-all-ask cs axes kind h g.1)

  misfit-least : (cs axis : Item) → Ready total class.CoordinateSystem cs → Ready total class.Axis axis → (unit : Item) → Ready total class.AxisUnit unit → HasLeast total (Misfits cs axis unit)
  misfit-least cs axis h g unit r =
      at-least 27 unit (omega arith) r.within
      (decided-some (Asks cs axis) (λ k. ¬ (Fits unit k)) (asks-one cs axis) (asks-known cs axis h g) (λ k x. decided-not (decided-fits unit k)))

  own-unit-least : (cs : Item) → Ready total class.CoordinateSystem cs → (axis : Item) → Ready total class.Axis axis → HasLeast total (BadOwnUnit cs axis)
  own-unit-least cs h axis g =
      either-least (at-least 27 axis (omega arith) g.within (decided-none (units_in axis)))
      (any-least (misfit-least cs axis h g) (units_in axis) (those-ready total class.Axis class.AxisUnit axis g))

  beside-least : (axis : Item) → Ready total class.Axis axis → HasLeast total (HasOwnUnit axis)
  beside-least axis g = any-least (λ i r. sure-least 27 (omega arith) i r.within) (units_in axis) (those-ready total class.Axis class.AxisUnit axis g)

  unit-least : (axes units : List Item) → AllReady total class.Axis axes → AllReady total class.AxisUnit units → (cs : Item) → Ready total class.CoordinateSystem cs → HasLeast total (BadUnit axes units cs)
  unit-least axes [] g r cs h = any-least (own-unit-least cs h) axes g
  unit-least axes (unit ∷ units) g r cs h =
      either-least (any-least beside-least axes g)
      (at-least 27 unit (omega arith) r.0.within
      (decided-not (decided-kinds (λ k. AllAsk cs axes k × Fits unit k) (λ k. decided-both (decided-all-ask cs axes k h g) (decided-fits unit k)))))

  -- ---- values

  above-least : (item : Item) → Ready total class.Number item → HasLeast total (NotAbove item)
  above-least item h =
      at-least 28 item (omega arith) h.within
      (decided-some (ReadsNumber item) (λ v. ¬ (IsAboveZero v)) (number-one one item) (number-known item h) (λ v x. decided-not (decided-above v)))

  negative-least : (item : Item) → Ready total class.Number item → HasLeast total (IsNegative item)
  negative-least item h =
      at-least 28 item (omega arith) h.within
      (decided-some (ReadsNumber item) (λ v. v.negative ≡ true) (number-one one item) (number-known item h) (λ v x. decided-bool v.negative true))

  -- ---- all of them

  head-least : (dims : SystemType → List ℕ) (axes : List Item) (cs : Item) → Ready total class.CoordinateSystem cs → HasLeast total (OfHead dims axes cs)
  head-least dims axes cs h = either-least (system-least dims cs h) (count-least (length axes) cs h)

  dynamic-least : (c : Class) (item : Item) → Within total item → HasLeast total (BadDynamic c item)
  dynamic-least c item within =
      under-least
      (decided-either (decided-not (decided-none (those c class.GeodeticEnsemble (arguments item)))) (decided-not (decided-none (those c class.VerticalEnsemble (arguments item)))))
      (any-least (sure-least 29 (omega arith)) (those c class.Dynamic (arguments item)) (those-within total c class.Dynamic (arguments item) (arguments-within total item within)))

  crs-least : (dims : SystemType → List ℕ) (c : Class) (item : Item) → Ready total c item → HasLeast total (OfCrs dims c item)
  crs-least dims c item h =
      either-least (repeats-least c (arguments item) (arguments-within total item h.within) once)
      (either-least
      (either-least (any-least (head-least dims axes) (those c class.CoordinateSystem (arguments item)) systems)
      (either-least (bad-order-least axes ready)
      (any-least (unit-least axes (those c class.AxisUnit (arguments item)) ready (those-ready total c class.AxisUnit item h)) (those c class.CoordinateSystem (arguments item)) systems)))
      (dynamic-least c item h.within))
    where
      axes : List Item
      axes = those c class.Axis (arguments item)

      systems : AllReady total class.CoordinateSystem (those c class.CoordinateSystem (arguments item))
      systems = those-ready total c class.CoordinateSystem item h

      ready : AllReady total class.Axis (those c class.Axis (arguments item))
      ready = those-ready total c class.Axis item h

  ellipsoid-least : (items : List Item) → AllReady total class.Number items → HasLeast total (OfEllipsoid items)
  ellipsoid-least items h =
      either-least (any-least above-least (take 1 items) (each-first (Ready total class.Number) items h))
      (any-least negative-least (drop 1 items) (each-drop (Ready total class.Number) 1 items h))

  units-least : (c : Class) (item : Item) → Ready total c item → HasLeast total (OfUnit c item)
  units-least c item h = any-least above-least (those c class.Number (arguments item)) (those-ready total c class.Number item h)

  own-least : (c : Class) (item : Item) → Ready total c item → HasLeast total (Own c item)
  unfolding Own
  own-least class.GeodeticCrs item h = crs-least (dimensions_of class.GeodeticCrs) class.GeodeticCrs item h
  own-least class.GeographicCrs item h = crs-least (dimensions_of class.GeographicCrs) class.GeographicCrs item h
  own-least class.ProjectedCrs item h = crs-least (dimensions_of class.ProjectedCrs) class.ProjectedCrs item h
  own-least class.VerticalCrs item h = crs-least (dimensions_of class.VerticalCrs) class.VerticalCrs item h
  own-least class.CompoundCrs item h =
      either-least (repeats-least class.CompoundCrs (arguments item) (arguments-within total item h.within) once) (parts-least horizontal_classes item h)
  own-least class.BaseCrs item h = dynamic-least class.BaseCrs item h.within
  own-least class.GeodeticFrame item h = repeats-least class.GeodeticFrame (arguments item) (arguments-within total item h.within) anchors
  own-least class.VerticalFrame item h = repeats-least class.VerticalFrame (arguments item) (arguments-within total item h.within) anchors
  own-least class.Ellipsoid item h = ellipsoid-least (those class.Ellipsoid class.Number (arguments item)) (those-ready total class.Ellipsoid class.Number item h)
  own-least class.LengthUnit item h = units-least class.LengthUnit item h
  own-least class.AngleUnit item h = units-least class.AngleUnit item h
  own-least class.ScaleUnit item h = units-least class.ScaleUnit item h
  own-least class.PlainUnit item h = units-least class.PlainUnit item h
  own-least class.AxisUnit item h = units-least class.AxisUnit item h
  own-least class.CoordinateSystem item h =
      any-least (λ i r. unknown i r.within (type-known (raw_of i))) (those class.CoordinateSystem class.Word (arguments item)) (those-ready total class.CoordinateSystem class.Word item h)
  own-least class.Axis item h =
      any-least (λ i r. unknown i r.within (direction-known (raw_of i))) (those class.Axis class.Word (arguments item)) (those-ready total class.Axis class.Word item h)
  own-least other item h = nothing (λ f x. x)

  class-least : (o : Option Class) (d : Class) (P : Class → RefusedAt → Type 0) → o ≡ Some d → HasLeast total (P d) → HasLeast total (λ f. AtClass o (λ x. P x f))
  class-least o d P e h = let Q : Option Class → Type 0 = λ x. HasLeast total (λ f. AtClass x (λ y. P y f)) in subst Q (sym e) h

  mutual
    pub breaks-least : (c : Class) (item : Item) → Ready total c item → HasLeast total (Breaks c item)
    breaks-least c (leaf kind place raw) h = nothing (λ f x. x)
    breaks-least c (node place keyword square first others close) h =
        let shape = h.shaped.1 in
        let inner = h.within.1.1 in
        either-least (own-least c (node place keyword square first others close) h)
        (either-least
        (class-least (class_in c first) shape.0 (λ d f. Breaks d first f) shape.1.1.0
        (breaks-least shape.0 first (record { shaped = shape.1.1.1.0; formed = h.formed.1; within = inner.0 })))
        (among-least c shape.1.0 others shape.1.1.1.1.0 h.formed.2 inner.1))

    among-least : (c : Class) (ds : List Class) (items : Siblings) → AreShaped c ds items → AreAllFormed items → AreWithin total items → HasLeast total (BreaksAmong c items)
    among-least c ds End shaped formed within = nothing (λ f x. x)
    among-least c [] (More item items) shaped formed within = absurd shaped
    among-least c (d ∷ ds) (More item items) shaped formed within =
        either-least
        (class-least (class_in c item) d (λ x f. Breaks x item f) shaped.0
        (breaks-least d item (record { shaped = shaped.1.0; formed = formed.0; within = within.0 })))
        (among-least c ds items shaped.1.1 formed.1 within.1)
