-- What the nodes of a sound coordinate system say is sound: its count, its orders and its units.
use Rattle.std.proofs.Common.{◌≡◌, ◌≢◌, ℕ, suc, length, inl, inr, ◌⊎◌, Option, Some, None, List, [], ◌∷◌, ◌++◌, refl, ap, subst, IsSomeAnd}
use Rattle.crs_decimal.specs.inner.Prelude.{SameNumber, whole_number, Value, IsNormal, exact}
use Rattle.crs_text.specs.inner.Prelude.{Item, arguments, raw_of, RefusedAt}
use Rattle.crs_shape.specs.declared.class.Class.{Class}
use Rattle.crs_shape.specs.declared.class.Class.TheVariants as class
use Rattle.crs_shape.specs.declared.system_type.SystemType.{SystemType}
use Rattle.crs_shape.specs.declared.unit_kind.UnitKind.{UnitKind}
use Rattle.crs_shape.specs.declared.unit_kind.UnitKind.TheVariants as kinds
use Rattle.crs_shape.specs.inner.Prelude.{IsOneOf, dimensions_of, asked_kind}
use Rattle.crs_value.specs.Checks.{IsPosition, orders_in, SomeHasOrder, AllHaveOrder, LacksOrder, OneHas, ReadsOrder, IsBadOrder, BadOrders, BadOrder, Asks, Fits, units_in, Misfits, BadOwnUnit, IsSuperfluous, HasOwnUnit, AllAsk, SharedFits, BadUnit, at, AnyOf, OfHead, BadSystems}
use Rattle.crs_value.specs.inner.ReadOnce.{HasSystem, IsSound}
use Rattle.crs_value.specs.Reading.{OneIs, those, ReadsFirst, ReadsOptional, ReadsEach}
use Rattle.crs_value.specs.inner.Arguments.{Requires}
use Rattle.crs_value.specs.Reads.{HasType, ReadsKind, ReadsNumberOf, ReadsUnit, ReadsAxis, ReadsHead, ReadsSystem}
use Rattle.crs_value.specs.Sound.{Each, IsIdent, Suits, IsAxisUnit, IsAxis, AreOrders, AreDistinct, HasOrders, SuitsAxis, SuitsAll, HasUnits, IsSystem}
use Rattle.crs_value.specs.Values.{UnitParts, AxisParts, SystemParts}
use Rattle.crs_value.proofs.checked.OwnLemmas.{own-of-crs}
use Rattle.crs_value.proofs.found.ArgumentLemmas.{read-some, SlotsCount, not-none}
use Rattle.crs_value.proofs.sound.FrameLemmas.{none-read}
use Rattle.crs_value.proofs.some.DecisionLemmas.{stable, decided-both, decided-each, decided-kind, decided-kinds, decided-none, decided-one-of, decided-position, decided-same, decided-suits}
use Rattle.crs_value.proofs.sound.AxisLemmas.{axis-tells}
use Rattle.crs_value.proofs.sound.KnownWordLemmas.{own-free}
use Rattle.crs_value.proofs.sound.PartLemmas.{Tells, read-none, read-there, each-free, each-as, each-of, first-tells, optional-tells, each-tells, number-of-tells, identifiers-tell, axis-unit-tells}
use Rattle.crs_value.proofs.checked.UnitLemmas.{asks-one}
use Rattle.crs_value.proofs.one.WordLemmas.{kind-one}

-- ---- axes

each-length : {V : Type 0} (R : Item → V → Type 0) (items : List Item) (values : List V) → ReadsEach R items values → length items ≡ length values
each-length R [] [] reads = refl
each-length R [] (value ∷ values) reads = absurd reads
each-length R (item ∷ items) [] reads = absurd reads
each-length R (item ∷ items) (value ∷ values) reads = ap suc (each-length R items values reads.1)

abbrev ReadAxes : List Item → List AxisParts → Type 0
ReadAxes axes values = ReadsEach (ReadsAxis class.Axis) axes values

-- ---- the node `CS`

module _ (dimensions : SystemType → List ℕ) (axes : List Item) (parts : SystemParts) where
  pub head-fits : (systems : List Item) → ((fault : RefusedAt) → AnyOf (OfHead dimensions axes) systems fault → ⊥) → ReadsFirst ReadsHead systems parts →
      IsOneOf parts.dimension (dimensions parts.system_type) × SameNumber (exact parts.dimension) (whole_number (length axes))
  head-fits [] free reads = absurd reads
  head-fits (cs ∷ more) free reads = (
    stable (decided-one-of parts.dimension (dimensions parts.system_type))
        (λ never. free (at 23 cs) (inl (inl (refl, (parts.system_type, (parts.dimension, (reads.system_type, reads.dimension, never))))))),
    stable (decided-same _ _) (λ never. free (at 25 cs) (inl (inr (refl, (parts.dimension, (reads.dimension, never)))))),
  )

-- ---- orders

each-not : (P : Item → Type 0) (items : List Item) → ¬ (OneIs P items) → Each (λ item. ¬ (P item)) items
each-not P [] none = tt
each-not P (item ∷ items) none = (λ h. none (inl h), each-not P items (λ h. none (inr h)))

none-ordered : (axes : List Item) (values : List AxisParts) → ReadAxes axes values → (SomeHasOrder axes → ⊥) → Each (λ axis. axis.order ≡ None) values
none-ordered axes values reads none =
    each-of (ReadsAxis class.Axis) (λ axis. ¬ (orders_in axis ≢ [])) (λ value. value.order ≡ None)
    (λ axis value here read. read-none (ReadsNumberOf class.Order) (orders_in axis) value.order read.order (stable (decided-none (orders_in axis)) here)) axes values
    (each-not (λ axis. orders_in axis ≢ []) axes none) reads

all-or-lacking : (axes : List Item) → AllHaveOrder axes ⊎ ((fault : RefusedAt) × AnyOf LacksOrder axes fault)
all-or-lacking [] = inl tt
all-or-lacking (axis ∷ axes) = elim (decided-none (orders_in axis)) [
  | inl e ↦ inr (at 26 axis, inl (refl, e))
  | inr some ↦ elim (all-or-lacking axes) [ inl all ↦ inl (some, all) | inr h ↦ inr (h.0, inr h.1) ]
]

-- each axis has its order
abbrev ReadOrders : List Item → List Value → Type 0
ReadOrders axes orders = ReadsEach (λ axis order. ReadsFirst ReadsOrder (orders_in axis) order) axes orders

orders-read : (axes : List Item) (values : List AxisParts) → AllHaveOrder axes → ReadAxes axes values → (orders : List Value) × (AreOrders values orders × ReadOrders axes orders)
orders-read [] [] all reads = ([], (refl, tt))
orders-read [] (value ∷ values) all reads = absurd reads
orders-read (axis ∷ axes) [] all reads = absurd reads
orders-read (axis ∷ axes) (value ∷ values) all reads =
    let here = read-there (ReadsNumberOf class.Order) (orders_in axis) value.order reads.0.order all.0 in
    let rest = orders-read axes values all.1 reads.1 in
    (here.0 ∷ rest.0, (let e = here.1 in let f = rest.1.0 in cc, (read-some (ReadsNumberOf class.Order) (orders_in axis) value.order here.0 reads.0.order here.1, rest.1.1)))

not-wrong : (n : ℕ) (before items : List Item) (order : Value) → ((fault : RefusedAt) → ¬ (AnyOf (IsBadOrder n before) items fault)) → ReadsFirst ReadsOrder items order →
    ¬ (¬ (IsPosition n order) ⊎ OneHas order before)
not-wrong n before [] order free reads wrong = absurd reads
not-wrong n before (item ∷ items) order free reads wrong = free (at 26 item) (inl (refl, (order, (reads, wrong))))

one-has-left : (order : Value) (xs ys : List Item) → OneHas order xs → OneHas order (xs ++ ys)
one-has-left order [] ys h = absurd h
one-has-left order (x ∷ xs) ys (inl h) = inl h
one-has-left order (x ∷ xs) ys (inr h) = inr (one-has-left order xs ys h)

one-has-last : (order : Value) (xs : List Item) (y : Item) → ReadsFirst ReadsOrder (orders_in y) order → OneHas order (xs ++ y ∷ [])
one-has-last order [] y h = inl h
one-has-last order (x ∷ xs) y h = inr (one-has-last order xs y h)

module _ (n : ℕ) where
  abbrev Free : List Item → List Item → Type 0
  Free before axes = (fault : RefusedAt) → BadOrders n before axes fault → ⊥

  -- each order is a position, none of those before has it, and no two are equal
  numbered : (before axes : List Item) (orders : List Value) → Free before axes → ReadOrders axes orders →
      Each (λ order. IsPosition n order × ¬ (OneHas order before)) orders × AreDistinct orders
  numbered before axes [] free reads = (tt, tt)
  numbered before [] (order ∷ orders) free reads = absurd reads
  numbered before (axis ∷ axes) (order ∷ orders) free reads =
      let right = not-wrong n before (orders_in axis) order (λ fault bad. free fault (inl bad)) reads.0 in
      let later = numbered (before ++ axis ∷ []) axes orders (λ fault h. free fault (inr h)) reads.1 in
      let from : (Q : Value → Type 0) → ((other : Value) → IsPosition n other × ¬ (OneHas other (before ++ axis ∷ [])) → Q other) → Each Q orders
      = λ Q step. each-as (λ other. IsPosition n other × ¬ (OneHas other (before ++ axis ∷ []))) Q step orders later.0 in (
        (
          (stable (decided-position n order) (λ never. right (inl never)), λ has. right (inr has)),
          from (λ other. IsPosition n other × ¬ (OneHas other before)) (λ other h. (h.0, λ has. h.1 (one-has-left other before (axis ∷ []) has))),
        ),
        (from (λ other. order ≢ other) (λ other h e. h.1 (one-has-last other before axis (subst (ReadsFirst ReadsOrder (orders_in axis)) e reads.0))), later.1),
      )

pub orders-tell : (axes : List Item) (values : List AxisParts) → ((fault : RefusedAt) → BadOrder axes fault → ⊥) → ReadAxes axes values → HasOrders values
orders-tell axes values free reads = elim (all-or-lacking axes) [
  | inr lacks ↦ inl (none-ordered axes values reads (λ some. free lacks.0 (inl (some, lacks.1))))
  | inl all ↦
      let read = orders-read axes values all reads in
      let right = numbered (length axes) [] axes read.0 (λ fault bad. free fault (inr (all, bad))) read.1.1 in
      let positions = each-as (λ order. IsPosition (length axes) order × ¬ (OneHas order [])) (IsPosition (length axes)) (λ order h. h.0) read.0 right.0 in
      inr (read.0, (read.1.0, (rw (← each-length (ReadsAxis class.Axis) axes values reads) positions, right.1)))
]

-- ---- units

none-superfluous : (items : List Item) → ((fault : RefusedAt) → ¬ (AnyOf IsSuperfluous items fault)) → items ≡ []
none-superfluous [] free = refl
none-superfluous (item ∷ items) free = absurd (free (at 27 item) (inl refl))

no-own-units : (axes : List Item) (values : List AxisParts) → ((fault : RefusedAt) → AnyOf HasOwnUnit axes fault → ⊥) → ReadAxes axes values → Each (λ axis. axis.unit ≡ None) values
no-own-units axes values free reads =
    each-of (ReadsAxis class.Axis) (λ axis. (fault : RefusedAt) → ¬ (HasOwnUnit axis fault)) (λ value. value.unit ≡ None)
    (λ axis value here read. read-none (ReadsUnit class.AxisUnit) (units_in axis) value.unit read.unit (none-superfluous (units_in axis) here)) axes values
    (each-free HasOwnUnit axes free) reads

-- a unit whose kind doesn't suit doesn't fit
suits-fits : (unit : Item) (asked kind : UnitKind) → ReadsKind unit kind → Fits unit asked → Suits asked kind
suits-fits unit asked kind reads (inl plain) = inr (kind-one (raw_of unit) kind kinds.Plain reads plain)
suits-fits unit asked kind reads (inr same) = inl (kind-one (raw_of unit) kind asked reads same)

module _ (cs : Item) (system_type : SystemType) (has : HasType cs system_type) where
  axis-asks : (axis : Item) (value : AxisParts) → ReadsAxis class.Axis axis value → Asks cs axis (asked_kind system_type value.direction)
  axis-asks axis value reads = (system_type, (value.direction, (has, reads.direction, refl)))

  -- the unit that is read from the units on an axis
  own-unit-suits : (axis : Item) (value : AxisParts) (units : List Item) (unit : Option UnitParts) → units ≢ [] → ((fault : RefusedAt) → ¬ (AnyOf (Misfits cs axis) units fault)) →
      ReadsAxis class.Axis axis value → ReadsOptional (ReadsUnit class.AxisUnit) units unit → IsSomeAnd unit (SuitsAxis system_type value)
  own-unit-suits axis value [] unit some free reads read = absurd (some refl)
  own-unit-suits axis value (item ∷ units) None some free reads read = absurd read
  own-unit-suits axis value (item ∷ units) (Some unit) some free reads read =
      let asked = asked_kind system_type value.direction in
      stable (decided-suits asked unit.kind)
      (λ never. free (at 27 item) (inl (refl, (asked, (axis-asks axis value reads, λ fits. never (suits-fits item asked unit.kind read.kind fits))))))

  own-units : (axes : List Item) (values : List AxisParts) → ((fault : RefusedAt) → AnyOf (BadOwnUnit cs) axes fault → ⊥) → ReadAxes axes values →
      Each (λ axis. IsSomeAnd axis.unit (SuitsAxis system_type axis)) values
  own-units axes values free reads =
      each-of (ReadsAxis class.Axis) (λ axis. (fault : RefusedAt) → ¬ (BadOwnUnit cs axis fault)) (λ value. IsSomeAnd value.unit (SuitsAxis system_type value))
      (λ axis value here read. own-unit-suits axis value (units_in axis) value.unit (λ none. here (at 27 axis) (inl (refl, none))) (λ fault bad. here fault (inr bad)) read read.unit)
      axes values (each-free (BadOwnUnit cs) axes free) reads

  all-asked : (axes : List Item) (values : List AxisParts) (kind : UnitKind) → AllAsk cs axes kind → ReadAxes axes values →
      Each (λ axis. asked_kind system_type axis.direction ≡ kind) values
  all-asked [] [] kind all reads = tt
  all-asked [] (value ∷ values) kind all reads = absurd reads
  all-asked (axis ∷ axes) [] kind all reads = absurd reads
  all-asked (axis ∷ axes) (value ∷ values) kind all reads =
      (asks-one cs axis (asked_kind system_type value.direction) kind (axis-asks axis value reads.0) all.0, all-asked axes values kind all.1 reads.1)

  shared-suits : (axes : List Item) (values : List AxisParts) (item : Item) (unit : UnitParts) → (¬ (SharedFits cs axes item) → ⊥) → ReadAxes axes values →
      ReadsUnit class.AxisUnit item unit → SuitsAll system_type values unit
  shared-suits axes values item unit twice reads unit_reads =
      let Asked : UnitKind → AxisParts → Type 0 = λ kind axis. asked_kind system_type axis.direction ≡ kind in
      let P : UnitKind → Type 0 = λ kind. Each (Asked kind) values × Suits kind unit.kind in
      stable
      (decided-kinds P (λ kind. decided-both (decided-each (Asked kind) (λ axis. decided-kind (asked_kind system_type axis.direction) kind) values) (decided-suits kind unit.kind)))
      (λ never. twice (λ fits. never (fits.0, (all-asked axes values fits.0 fits.1.0 reads, suits-fits item fits.0 unit.kind unit_reads.kind fits.1.1))))

  units-suit : (axes units : List Item) (values : List AxisParts) (shared : Option UnitParts) → ((fault : RefusedAt) → BadUnit axes units cs fault → ⊥) → ReadAxes axes values →
      ReadsOptional (ReadsUnit class.AxisUnit) units shared → HasUnits system_type values shared
  units-suit axes [] values None free reads unit_reads = own-units axes values free reads
  units-suit axes [] values (Some unit) free reads unit_reads = absurd unit_reads
  units-suit axes (item ∷ units) values None free reads unit_reads = absurd unit_reads
  units-suit axes (item ∷ units) values (Some unit) free reads unit_reads = (
    no-own-units axes values (λ fault h. free fault (inl h)) reads,
    shared-suits axes values item unit (λ never. free (at 27 item) (inr (refl, never))) reads unit_reads,
  )

pub units-tell : (systems axes units : List Item) (parts : SystemParts) → ((fault : RefusedAt) → AnyOf (BadUnit axes units) systems fault → ⊥) → ReadsFirst ReadsHead systems parts →
    ReadAxes axes parts.axes → ReadsOptional (ReadsUnit class.AxisUnit) units parts.unit → HasUnits parts.system_type parts.axes parts.unit
units-tell [] axes units parts free head reads unit = absurd head
units-tell (cs ∷ more) axes units parts free head reads unit =
    units-suit cs parts.system_type head.system_type axes units parts.axes parts.unit (λ fault h. free fault (inl h)) reads unit

-- ---- the whole system

-- the nodes `CS`, the axes and the shared units of a sound CRS break no check
pub system-free : (c : Class) (item : Item) (parts : SystemParts) → HasSystem c → IsSound c item → ReadsSystem c item parts → (fault : RefusedAt) →
    BadSystems (dimensions_of c) (those c class.CoordinateSystem (arguments item)) (those c class.Axis (arguments item)) (those c class.AxisUnit (arguments item)) fault → ⊥
system-free c item parts is sound reads fault bad = own-free c item fault sound (own-of-crs c item fault is (inr (inl bad)))

pub system-tells : SlotsCount → (c : Class) → HasSystem c → Requires c class.Axis 0 → Tells c (ReadsSystem c) IsSystem
system-tells law c is enough item parts sound reads =
    let systems = those c class.CoordinateSystem (arguments item) in
    let axes = those c class.Axis (arguments item) in
    let units = those c class.AxisUnit (arguments item) in
    let free = system-free c item parts is sound reads in
    let head =
    first-tells ReadsHead (λ parts. IsNormal parts.dimension × Each IsIdent parts.identifiers) c class.CoordinateSystem
    (λ cs parts sound reads. (number-of-tells class.CoordinateSystem cs parts.dimension sound reads.dimension, identifiers-tell class.CoordinateSystem cs parts.identifiers sound reads.identifiers))
    item parts sound reads.head in
    record {
      dimension = head.0;
      identifiers = head.1;
      some = λ none. not-none law c class.Axis item sound.shaped enough (none-read (ReadsAxis class.Axis) axes parts.axes reads.axes none);
      axes = each-tells (ReadsAxis class.Axis) IsAxis c class.Axis (axis-tells class.Axis) item parts.axes sound reads.axes;
      count =
          rw (← each-length (ReadsAxis class.Axis) axes parts.axes reads.axes)
          (head-fits (dimensions_of c) axes parts systems (λ fault h. free fault (inl h)) reads.head).1;
      orders = orders-tell axes parts.axes (λ fault h. free fault (inr (inl h))) reads.axes;
      unit = optional-tells (ReadsUnit class.AxisUnit) IsAxisUnit c class.AxisUnit axis-unit-tells item parts.unit sound reads.unit;
      units = units-tell systems axes units parts (λ fault h. free fault (inr (inr h))) reads.head reads.axes reads.unit;
    }
