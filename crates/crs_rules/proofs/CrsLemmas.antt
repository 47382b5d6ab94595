-- A CRS that is rewritten by rules is sound.
use Rattle.std.proofs.Common.{◌≡◌, ◌≢◌, ℕ, suc, Bool, Option, Some, None, List, [], ◌∷◌, IfSome, IsNone, IsSome, IsSomeAnd, refl, sym, ap, ◌∙◌, map, length, inl, inr, true, false, if◌then◌else◌, Ordering, Less, Equal, Greater}
use Rattle.crs_shape.specs.declared.class.Class.TheVariants as class
use Rattle.crs_shape.specs.declared.unit_kind.UnitKind.{UnitKind}
use Rattle.crs_shape.specs.declared.unit_kind.UnitKind.TheVariants as kinds
use Rattle.crs_shape.specs.declared.system_type.SystemType.{SystemType}
use Rattle.crs_shape.specs.inner.Prelude.{asked_kind}
use Rattle.crs_value.specs.inner.Prelude.{BaseParts, IsConversion, GeodeticParts, ProjectedParts, VerticalParts, NamedParts, IsNamed, IsAxisUnit, IsAxisMeridian, IsAxis, IsCompound, IsHorizontal, IsCrs, IsBase, IsGeodetic, IsProjected, IsVertical, HasOrders, HasUnits, IsSystem, SuitsAxis, AxisMeridianParts, AxisParts, SystemParts, UnitParts, CompoundParts, IsMeridian, IsUnit, IsUnitOf, MeridianParts, ConversionParts}
use Rattle.crs_value.specs.Sound.{Each}
use Rattle.crs_value.specs.declared.values.compound.Horizontal.{Horizontal}
use Rattle.crs_value.specs.declared.values.compound.Horizontal.TheVariants as horizontals
use Rattle.crs_value.specs.declared.values.crs.Crs.{Crs}
use Rattle.crs_value.specs.declared.values.crs.Crs.TheVariants as crs
use Rattle.std.specs.Cmp.Lexicographic.{slice_cmp}
use Rattle.std.specs.Ordering.{nat_cmp, match_ordering}
use Rattle.std.proofs.lemmas.List.{length-map, nil_from_length}
use Rattle.crs_rules.specs.inner.Sinking.{IsOrderless, IsOrderlessAcross, IsOrderlessCrs}
use Rattle.crs_rules.specs.Rewritten.{across, among, arranged, arranged_across, arranged_compound, arranged_crs, arranged_geodetic, arranged_projected, arranged_vertical, ascending, axis, axis_meridian, renamed, base, compound, geodetic, geoid_models, projected, rewritten, system, units, vertical, conversion, explicit, explicit_base, explicit_geodetic, missing_unit, tail}
use Rattle.crs_rules.specs.Rules.{Meaning, RulesParts, meaning, AreRules}
use Rattle.crs_rules.proofs.PartLemmas.{IsSoundMeaning, axis-unit, choice, counted-name, sound-meaning, unit-of, conversion-sound, counted-sound, dynamics-sound, each-map, frame-sound, meridian-sound, named-sound, none-stays, some-map, some-stays, tail-sound, bare-angle, completed-conversion-sound, completed-meridians-sound, told-sound, kind-sound, shared-sound, some-bare, some-weaker}

-- ---- systems

pub along-sound : (r : Meaning) → IsSoundMeaning r → (m : AxisMeridianParts) → IsAxisMeridian m → IsAxisMeridian (axis_meridian r m)
along-sound r h m k = search unit-of

pub axis-sound : (r : Meaning) → IsSoundMeaning r → (a : AxisParts) → IsAxis a → IsAxis (axis r a)
axis-sound r h a k = search (counted-name, h.name, some-map, along-sound, counted-sound, axis-unit)

pub filled : (n m : List AxisParts) → length n ≡ length m → m ≢ [] → n ≢ []
filled n m e h k = h (nil_from_length m (sym e ∙ ap length k))

pub none-ordered : (r : Meaning) → r.uncounted.axis_order ≡ true → (xs : List AxisParts) →
    Each (λ a. a.order ≡ None) (map (axis r) xs)
none-ordered r e [] = tt
none-ordered r e (x ∷ xs) = (rw e, none-ordered r e xs)

same-orders : (r : Meaning) → r.uncounted.axis_order ≡ false → (xs : List AxisParts) →
    map (λ a. a.order) (map (axis r) xs) ≡ map (λ a. a.order) xs
same-orders r e [] = refl
same-orders r e (x ∷ xs) = rw (same-orders r e xs, e)

orders-by : (r : Meaning) (xs : List AxisParts) (b : Bool) → r.uncounted.axis_order ≡ b → HasOrders xs → HasOrders (map (axis r) xs)
orders-by r xs true e h = inl (none-ordered r e xs)
orders-by r xs false e (inl k) = inl (each-map (λ a. a.order ≡ None) (axis r) xs (λ x q. rw e q) k)
orders-by r xs false e (inr k) = inr (k.0, (same-orders r e xs ∙ k.1.0, rw length-map k.1.1))

orders-sound : (r : Meaning) (xs : List AxisParts) → HasOrders xs → HasOrders (map (axis r) xs)
orders-sound r xs h = orders-by r xs r.uncounted.axis_order refl h

suits-stays : (r : Meaning) (t : SystemType) (a : AxisParts) (u : Option UnitParts) → IsSoundMeaning r → IfSome u IsAxisUnit →
    IsSomeAnd u (SuitsAxis t a) → IsSomeAnd (units r u) (SuitsAxis t a)
suits-stays r t a None h s k = k
suits-stays r t a (Some u) h s k = rw (h.unit u s.0).kind k

pub each-both : {A : Type 0} (P Q R : A → Type 0) (f : A → A) (xs : List A) → ((x : A) → P x → Q x → R (f x)) →
    Each P xs → Each Q xs → Each R (map f xs)
each-both P Q R f [] h s k = tt
each-both P Q R f (x ∷ xs) h s k = (h x s.0 k.0, each-both P Q R f xs h s.1 k.1)

units-sound : (r : Meaning) (t : SystemType) (xs : List AxisParts) (u : Option UnitParts) → IsSoundMeaning r → Each IsAxis xs →
    IfSome u IsAxisUnit → HasUnits t xs u → HasUnits t (map (axis r) xs) (units r u)
units-sound r t xs None h s w k =
    let P : AxisParts → Type 0 = λ a. IsSomeAnd a.unit (SuitsAxis t a) in
    each-both IsAxis P P (axis r) xs (λ a i p. suits-stays r t a a.unit h i.unit p) s k
units-sound r t xs (Some u) h s w k = (
  each-map (λ a. a.unit ≡ None) (axis r) xs (λ a p. ap (units r) p) k.0,
  (k.1.0, (each-map (λ a. asked_kind t a.direction ≡ k.1.0) (axis r) xs (λ a p. p) k.1.1.0, rw (h.unit u w.0).kind k.1.1.1)),
)

pub system-sound : (r : Meaning) → IsSoundMeaning r → (s : SystemParts) → IsSystem s → IsSystem (system r s)
system-sound r h s k = search (filled, length-map, each-map, axis-sound, orders-sound, some-map, axis-unit, units-sound)

-- ---- CRSs

pub geodetic-sound : (r : Meaning) → IsSoundMeaning r → (g : GeodeticParts) → IsGeodetic g → IsGeodetic (geodetic r g)
geodetic-sound r h g k =
    search (counted-name, dynamics-sound, frame-sound IsSome some-stays, some-map, meridian-sound, system-sound, tail-sound)

pub base-sound : (r : Meaning) (idle : Bool) → IsSoundMeaning r → (b : BaseParts) → IsBase b → IsBase (base r idle b)
base-sound r idle h b k =
    search (counted-name, dynamics-sound, frame-sound IsSome some-stays, some-map, meridian-sound, counted-sound, unit-of)

pub projected-sound : (r : Meaning) → IsSoundMeaning r → (p : ProjectedParts) → IsProjected p → IsProjected (projected r p)
projected-sound r h p k = search (counted-name, base-sound, conversion-sound, system-sound, tail-sound)

-- a projected CRS whose parameters have the units that they leave out
pub missing-sound : (r : Meaning) → IsSoundMeaning r → (p : ProjectedParts) → IsProjected p → (k : UnitKind) →
    IfSome (missing_unit r p k) IsUnit
missing-sound r h p k =
    let angle = some-bare p.base.unit (some-weaker (IsUnitOf kinds.Angle) IsUnit (λ u i. i.0) p.base.unit k.base.unit) in
    kind-sound _ _ angle (some-weaker (IsUnitOf kinds.Length) IsUnit (λ u i. i.0) _ (shared-sound kinds.Length (system r p.system).axes (system-sound r h p.system k.system).axes))

pub base-with : (b : BaseParts) (y : Option MeridianParts) → IsBase b → IfSome y IsMeridian → IsBase (record b { meridian = y })
base-with b y k l = record {
  name = k.name;
  dynamic = k.dynamic;
  frame = k.frame;
  meridian = l;
  unit = k.unit;
  identifiers = k.identifiers;
}

pub explicit-base-sound : (r : Meaning) (b : BaseParts) → IsBase b → IsBase (explicit_base r b)
explicit-base-sound r b k =
    base-with b _ k
    (completed-meridians-sound _
    (told-sound (IsUnitOf kinds.Angle) r.uncounted.meridian_units _ (bare-angle b.unit k.unit)) b.meridian k.meridian)

pub geodetic-with : (g : GeodeticParts) (y : Option MeridianParts) → IsGeodetic g → IfSome y IsMeridian → IsGeodetic (record g { meridian = y })
geodetic-with g y k l = record {
  name = k.name;
  dynamic = k.dynamic;
  frame = k.frame;
  meridian = l;
  system = k.system;
  dimension = k.dimension;
  tail = k.tail;
}

pub explicit-geodetic-sound : (r : Meaning) → IsSoundMeaning r → (g : GeodeticParts) → IsGeodetic g → IsGeodetic (explicit_geodetic r g)
explicit-geodetic-sound r h g k =
    geodetic-with g _ k
    (completed-meridians-sound _
    (told-sound (IsUnitOf kinds.Angle) r.uncounted.meridian_units _
    (shared-sound kinds.Angle (system r g.system).axes (system-sound r h g.system k.system).axes)) g.meridian k.meridian)

pub projected-base : (p : ProjectedParts) (b : BaseParts) → IsProjected p → IsBase b → IsProjected (record p { base = b })
projected-base p b k l =
    record { name = k.name; base = l; conversion = k.conversion; system = k.system; dimension = k.dimension; tail = k.tail }

pub projected-conversion : (p : ProjectedParts) (c : ConversionParts) → IsProjected p → IsConversion c → IsProjected (record p { conversion = c })
projected-conversion p c k l =
    record { name = k.name; base = k.base; conversion = l; system = k.system; dimension = k.dimension; tail = k.tail }

pub explicit-sound : (r : Meaning) → IsSoundMeaning r → (p : ProjectedParts) → IsProjected p → IsProjected (explicit r p)
explicit-sound r h p k =
    projected-base _ _
    (projected-conversion p _ k (completed-conversion-sound r (missing_unit r p) (missing-sound r h p k) p.conversion k.conversion))
    (explicit-base-sound r p.base k.base)

models-sound : (r : Meaning) → IsSoundMeaning r → (models : List NamedParts) → Each IsNamed models → Each IsNamed (geoid_models r models)
models-sound r h models k =
    choice (Each IsNamed) r.uncounted.geoid_models [] _ tt (each-map IsNamed _ models (named-sound r class.GeoidModel h) k)

pub vertical-sound : (r : Meaning) → IsSoundMeaning r → (v : VerticalParts) → IsVertical v → IsVertical (vertical r v)
vertical-sound r h v k =
    search (counted-name, dynamics-sound, frame-sound IsNone none-stays, system-sound, models-sound, tail-sound)

pub across-sound : (r : Meaning) → IsSoundMeaning r → (x : Horizontal) → IsHorizontal x → IsHorizontal (across r x)
across-sound r h (horizontals.Geodetic g) k = (geodetic-sound r h (explicit_geodetic r g) (explicit-geodetic-sound r h g k.0), k.1, k.2)
across-sound r h (horizontals.Projected p) k = (projected-sound r h (explicit r p) (explicit-sound r h p k.0), k.1)

pub compound-sound : (r : Meaning) → IsSoundMeaning r → (c : CompoundParts) → IsCompound c → IsCompound (compound r c)
compound-sound r h c k = search (counted-name, across-sound, vertical-sound, tail-sound)

pub renamed-sound : (r : Meaning) → IsSoundMeaning r → (x : Crs) → IsCrs x → IsCrs (renamed r x)
renamed-sound r h (crs.Geodetic g) k = geodetic-sound r h (explicit_geodetic r g) (explicit-geodetic-sound r h g k)
renamed-sound r h (crs.Projected p) k = projected-sound r h (explicit r p) (explicit-sound r h p k)
renamed-sound r h (crs.Vertical v) k = vertical-sound r h v k
renamed-sound r h (crs.Compound c) k = compound-sound r h c k

-- ---- axes in order of their texts

-- what a comparison decides, where less and equal decide alike
by-order : {X : Type 0} (P : X → Type 0) (a b : X) (o : Ordering) → (o ≢ Greater → P a) → (o ≡ Greater → P b) →
    P (match_ordering o a a b)
by-order P a b Greater f g = g refl
by-order P a b Less f g = f (λ e. cc)
by-order P a b Equal f g = f (λ e. cc)

module _ (text : AxisParts → List ℕ) where
  -- one more axis stands before the first or behind it
  pub among-cases : (P : List AxisParts → Type 0) (x y : AxisParts) (ys : List AxisParts) →
      (slice_cmp nat_cmp (text x) (text y) ≢ Greater → P (x ∷ y ∷ ys)) →
      (slice_cmp nat_cmp (text x) (text y) ≡ Greater → P (y ∷ among text x ys)) → P (among text x (y ∷ ys))
  among-cases P x y ys = by-order P (x ∷ y ∷ ys) (y ∷ among text x ys) (slice_cmp nat_cmp (text x) (text y))

  each-among : (P : AxisParts → Type 0) (x : AxisParts) (xs : List AxisParts) → P x → Each P xs → Each P (among text x xs)
  each-among P x [] h k = (h, tt)
  each-among P x (y ∷ ys) h k =
      among-cases (Each P) x y ys (λ n. (h, k)) (λ g. (k.0, each-among P x ys h k.1))

  pub each-ascending : (P : AxisParts → Type 0) (xs : List AxisParts) → Each P xs → Each P (ascending text xs)
  each-ascending P [] k = tt
  each-ascending P (x ∷ xs) k = each-among P x (ascending text xs) k.0 (each-ascending P xs k.1)

  among-length : (x : AxisParts) (xs : List AxisParts) → length (among text x xs) ≡ suc (length xs)
  among-length x [] = refl
  among-length x (y ∷ ys) =
      among-cases (λ zs. length zs ≡ suc (suc (length ys))) x y ys (λ n. refl) (λ g. ap suc (among-length x ys))

  pub ascending-length : (xs : List AxisParts) → length (ascending text xs) ≡ length xs
  ascending-length [] = refl
  ascending-length (x ∷ xs) = among-length x (ascending text xs) ∙ ap suc (ascending-length xs)

  pub units-arranged : (t : SystemType) (xs : List AxisParts) (u : Option UnitParts) → HasUnits t xs u →
      HasUnits t (ascending text xs) u
  units-arranged t xs None k = each-ascending (λ a. IsSomeAnd a.unit (SuitsAxis t a)) xs k
  units-arranged t xs (Some u) k = (
    each-ascending (λ a. a.unit ≡ None) xs k.0,
    (k.1.0, (each-ascending (λ a. asked_kind t a.direction ≡ k.1.0) xs k.1.1.0, k.1.1.1)),
  )

  arranged-sound : (s : SystemParts) → IsOrderless s → IsSystem s → IsSystem (arranged text s)
  arranged-sound s n k =
      let orders : HasOrders (ascending text s.axes) = inl (each-ascending (λ a. a.order ≡ None) s.axes n) in
      search (filled, ascending-length, each-ascending, orders, units-arranged)

  geodetic-arranged : (g : GeodeticParts) → IsOrderless g.system → IsGeodetic g → IsGeodetic (arranged_geodetic text g)
  geodetic-arranged g n k = assumption (arranged-sound g.system n k.system)

  projected-arranged : (p : ProjectedParts) → IsOrderless p.system → IsProjected p → IsProjected (arranged_projected text p)
  projected-arranged p n k = assumption (arranged-sound p.system n k.system)

  vertical-arranged : (v : VerticalParts) → IsOrderless v.system → IsVertical v → IsVertical (arranged_vertical text v)
  vertical-arranged v n k = assumption (arranged-sound v.system n k.system)

  across-arranged : (x : Horizontal) → IsOrderlessAcross x → IsHorizontal x → IsHorizontal (arranged_across text x)
  across-arranged (horizontals.Geodetic g) n k = (geodetic-arranged g n k.0, k.1, k.2)
  across-arranged (horizontals.Projected p) n k = (projected-arranged p n k.0, k.1)

  compound-arranged : (c : CompoundParts) → IsOrderlessAcross c.horizontal → IsOrderless c.vertical.system → IsCompound c →
      IsCompound (arranged_compound text c)
  compound-arranged c n o k = assumption (across-arranged c.horizontal n k.horizontal, vertical-arranged c.vertical o k.vertical)

  crs-arranged : (x : Crs) → IsOrderlessCrs x → IsCrs x → IsCrs (arranged_crs text x)
  crs-arranged (crs.Geodetic g) n k = geodetic-arranged g n k
  crs-arranged (crs.Projected p) n k = projected-arranged p n k
  crs-arranged (crs.Vertical v) n k = vertical-arranged v n k
  crs-arranged (crs.Compound c) n k = compound-arranged c n.0 n.1 k

across-orderless : (r : Meaning) → r.uncounted.axis_order ≡ true → (x : Horizontal) → IsOrderlessAcross (across r x)
across-orderless r e (horizontals.Geodetic g) = none-ordered r e g.system.axes
across-orderless r e (horizontals.Projected p) = none-ordered r e p.system.axes

pub renamed-orderless : (r : Meaning) → r.uncounted.axis_order ≡ true → (x : Crs) → IsOrderlessCrs (renamed r x)
renamed-orderless r e (crs.Geodetic g) = none-ordered r e g.system.axes
renamed-orderless r e (crs.Projected p) = none-ordered r e p.system.axes
renamed-orderless r e (crs.Vertical v) = none-ordered r e v.system.axes
renamed-orderless r e (crs.Compound c) = (across-orderless r e c.horizontal, none-ordered r e c.vertical.system.axes)

either-sound : (text : AxisParts → List ℕ) (r : Meaning) (x : Crs) (b : Bool) → r.uncounted.axis_order ≡ b →
    IsCrs (renamed r x) → IsCrs (if b then arranged_crs text (renamed r x) else renamed r x)
either-sound text r x true e k = crs-arranged text (renamed r x) (renamed-orderless r e x) k
either-sound text r x false e k = k

pub crs-sound : (text : AxisParts → List ℕ) (r : RulesParts) → AreRules r → (x : Crs) → IsCrs x →
    IsCrs (rewritten text (meaning r) x)
crs-sound text r h x k =
    either-sound text (meaning r) x r.uncounted.axis_order refl (renamed-sound (meaning r) (sound-meaning r h) x k)
