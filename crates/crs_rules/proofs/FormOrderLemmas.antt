-- Axes in the order of the form: the CRS is sound, and rewritten it is the one that the form spells.
use Rattle.std.proofs.Common.{◌≡◌, ℕ, Bool, true, false, List, [], ◌∷◌, Option, Some, None, IsSomeAnd, Ordering, Less, Equal, Greater, ap, ◌∙◌, inl, length, map, refl, sym, if◌then◌else◌}
use Rattle.std.proofs.lemmas.List.{length-map}
use Rattle.crs_decimal.specs.inner.Prelude.{Value}
use Rattle.crs_shape.specs.inner.Prelude.{asked_kind}
use Rattle.crs_shape.specs.declared.system_type.SystemType.{SystemType}
use Rattle.crs_value.specs.inner.Prelude.{AxisParts, GeodeticParts, HasUnits, IsAxis, IsGeodetic, IsHorizontal, IsProjected, IsSystem, IsVertical, ProjectedParts, SuitsAxis, SystemParts, UnitParts, VerticalParts}
use Rattle.crs_shape.specs.declared.unit_kind.UnitKind.{UnitKind}
use Rattle.crs_shape.specs.declared.unit_kind.UnitKind.TheVariants as kinds
use Rattle.crs_value.specs.Sound.{Each}
use Rattle.crs_value.specs.declared.values.compound.Horizontal.{Horizontal}
use Rattle.crs_value.specs.declared.values.compound.Horizontal.TheVariants as horizontals
use Rattle.crs_value.specs.declared.values.crs.Crs.{Crs}
use Rattle.crs_value.specs.declared.values.crs.Crs.TheVariants as crs
use Rattle.std.specs.Cmp.Lexicographic.{slice_cmp}
use Rattle.std.specs.Option.{option_map}
use Rattle.std.specs.Ordering.{nat_cmp, match_ordering}
use Rattle.crs_rules.specs.FormOrder.{in_form_order, put, put_across, put_crs, put_geodetic, put_projected, put_vertical}
use Rattle.crs_rules.specs.ReorderedAxes.{unordered}
use Rattle.crs_rules.specs.inner.Sinking.{axes_across, axes_along, axes_up, IsOrderless, IsOrderlessAcross, IsOrderlessCrs}
use Rattle.crs_rules.specs.Rewritten.{across, among, arranged, arranged_across, arranged_crs, arranged_geodetic, arranged_projected, ascending, axis, bare, completed_conversion, completed_meridian, compound, explicit, explicit_base, explicit_geodetic, geodetic, projected, renamed, shared, system, told, unit_of_kind, vertical}
use Rattle.crs_rules.specs.Rules.{Meaning}
use Rattle.crs_rules.proofs.CrsLemmas.{ascending-length, each-ascending, filled, units-arranged}
use Rattle.crs_rules.proofs.PartLemmas.{each-map}
use Rattle.crs_rules.proofs.SharedLemmas.{shared-ascending}

-- ---- a system whose axes have lost their orders is sound

none-unordered : (xs : List AxisParts) → Each (λ a. a.order ≡ None) (map unordered xs)
none-unordered [] = tt
none-unordered (x ∷ xs) = (refl, none-unordered xs)

unordered-sound : (a : AxisParts) → IsAxis a → IsAxis (unordered a)
unordered-sound a k =
    record { name = k.name; meridian = k.meridian; order = tt; unit = k.unit; identifiers = k.identifiers }

units-unordered : (t : SystemType) (xs : List AxisParts) (u : Option UnitParts) → HasUnits t xs u → HasUnits t (map unordered xs) u
units-unordered t xs None k = each-map (λ a. IsSomeAnd a.unit (SuitsAxis t a)) unordered xs (λ a p. p) k
units-unordered t xs (Some u) k = (
  each-map (λ a. a.unit ≡ None) unordered xs (λ a p. p) k.0,
  (k.1.0, (each-map (λ a. asked_kind t a.direction ≡ k.1.0) unordered xs (λ a p. p) k.1.1.0, k.1.1.1)),
)

module _ (text : AxisParts → List ℕ) where
  pub put-sound : (s : SystemParts) → IsSystem s → IsSystem (put text s)
  put-sound s k =
      let xs : List AxisParts = ascending text s.axes in
      let long : length (map unordered xs) ≡ length s.axes = length-map xs unordered ∙ ascending-length text s.axes in
      record {
        dimension = k.dimension;
        identifiers = k.identifiers;
        some = filled (map unordered xs) s.axes long k.some;
        axes = each-map IsAxis unordered xs unordered-sound (each-ascending text IsAxis s.axes k.axes);
        count = rw long k.count;
        orders = inl (none-unordered xs);
        unit = k.unit;
        units = units-unordered s.system_type xs s.unit (units-arranged text s.system_type s.axes s.unit k.units);
      }

  pub geodetic-put : (g : GeodeticParts) → IsGeodetic g → IsGeodetic (put_geodetic text g)
  geodetic-put g k = assumption (put-sound g.system k.system)

  pub projected-put : (p : ProjectedParts) → IsProjected p → IsProjected (put_projected text p)
  projected-put p k = assumption (put-sound p.system k.system)

  pub vertical-put : (v : VerticalParts) → IsVertical v → IsVertical (put_vertical text v)
  vertical-put v k = assumption (put-sound v.system k.system)

  pub across-put : (x : Horizontal) → IsHorizontal x → IsHorizontal (put_across text x)
  across-put (horizontals.Geodetic g) k = (geodetic-put g k.0, k.1, k.2)
  across-put (horizontals.Projected p) k = (projected-put p k.0, k.1)

  -- ---- without orders axes are put as by their texts alone

  none-stay : (xs : List AxisParts) → Each (λ a. a.order ≡ None) xs → map unordered xs ≡ xs
  none-stay [] h = refl
  none-stay (x ∷ xs) (e, h) =
      let same : ◌≡◌ {A = AxisParts} (unordered x) x = ap (λ (order : Option Value). record x { order = order }) (sym e) in
      let others = none-stay xs h in λ i. same i ∷ others i

  put-orderless : (s : SystemParts) → IsOrderless s → ◌≡◌ {A = SystemParts} (put text s) (arranged text s)
  put-orderless s h =
      ap (λ (axes : List AxisParts). record s { axes = axes })
      (none-stay (ascending text s.axes) (each-ascending text (λ a. a.order ≡ None) s.axes h))

  across-orderless : (x : Horizontal) → IsOrderlessAcross x → put_across text x ≡ arranged_across text x
  across-orderless (horizontals.Geodetic g) h =
      ap (λ (s : SystemParts). horizontals.Geodetic (record g { system = s })) (put-orderless g.system h)
  across-orderless (horizontals.Projected p) h =
      ap (λ (s : SystemParts). horizontals.Projected (record p { system = s })) (put-orderless p.system h)

  pub crs-orderless : (x : Crs) → IsOrderlessCrs x → put_crs text x ≡ arranged_crs text x
  crs-orderless (crs.Geodetic g) h = ap (λ (s : SystemParts). crs.Geodetic (record g { system = s })) (put-orderless g.system h)
  crs-orderless (crs.Projected p) h = ap (λ (s : SystemParts). crs.Projected (record p { system = s })) (put-orderless p.system h)
  crs-orderless (crs.Vertical v) h = ap (λ (s : SystemParts). crs.Vertical (record v { system = s })) (put-orderless v.system h)
  crs-orderless (crs.Compound c) (h, k) =
      ap (λ (x : Horizontal). crs.Compound (record c { horizontal = x; vertical = put_vertical text c.vertical })) (across-orderless c.horizontal h)
      ∙ ap (λ (s : SystemParts). crs.Compound (record c { horizontal = arranged_across text c.horizontal; vertical = record c.vertical { system = s } }))
      (put-orderless c.vertical.system k)

-- ---- rewritten, its axes are those of the form

map-match : (f : AxisParts → AxisParts) (o : Ordering) (a b c d : List AxisParts) → map f a ≡ c → map f b ≡ d →
    map f (match_ordering o a a b) ≡ match_ordering o c c d
map-match f Less a b c d e h = e
map-match f Equal a b c d e h = e
map-match f Greater a b c d e h = h

module _ (text : AxisParts → List ℕ) (r : Meaning) where
  abbrev under : AxisParts → List ℕ
  under a = text (axis r a)

  map-among : (x : AxisParts) (ys : List AxisParts) → map (axis r) (among under x ys) ≡ among text (axis r x) (map (axis r) ys)
  map-among x [] = refl
  map-among x (y ∷ ys) =
      map-match (axis r) (slice_cmp nat_cmp (under x) (under y)) (x ∷ y ∷ ys) (y ∷ among under x ys) _ _ refl
      (ap (λ zs. axis r y ∷ zs) (map-among x ys))

  map-ascending : (xs : List AxisParts) → map (axis r) (ascending under xs) ≡ ascending text (map (axis r) xs)
  map-ascending [] = refl
  map-ascending (x ∷ xs) = map-among x (ascending under xs) ∙ ap (among text (axis r x)) (map-ascending xs)

  module _ (c : r.uncounted.axis_order ≡ true) where
    all-unordered : (xs : List AxisParts) → map (axis r) (map unordered xs) ≡ map (axis r) xs
    all-unordered [] = refl
    all-unordered (x ∷ xs) = let t = all-unordered xs in simp (t, c)

    kept-system : (s : SystemParts) → ◌≡◌ {A = SystemParts} (system r (put under s)) (arranged text (system r s))
    kept-system s =
        ap (λ (axes : List AxisParts). record (system r s) { axes = axes })
        (all-unordered (ascending under s.axes) ∙ map-ascending s.axes)

    shared-stays : (kind : UnitKind) (s : SystemParts) → shared kind (system r (put under s)).axes ≡ shared kind (system r s).axes
    shared-stays kind s = ap (λ (z : SystemParts). shared kind z.axes) (kept-system s) ∙ shared-ascending kind text (system r s).axes

    kept-geodetic : (g : GeodeticParts) →
        geodetic r (explicit_geodetic r (put_geodetic under g)) ≡ arranged_geodetic text (geodetic r (explicit_geodetic r g))
    kept-geodetic g =
        let e = shared-stays kinds.Angle g.system in
        let k = kept-system g.system in
        λ i. record (geodetic r (record g {
          meridian = option_map (completed_meridian (told r.uncounted.meridian_units (e i))) g.meridian;
        })) { system = k i }

    kept-projected : (p : ProjectedParts) →
        projected r (explicit r (put_projected under p)) ≡ arranged_projected text (projected r (explicit r p))
    kept-projected p =
        let e = shared-stays kinds.Length p.system in
        let k = kept-system p.system in
        λ i. record (projected r (record p {
          base = explicit_base r p.base;
          conversion = completed_conversion r (unit_of_kind (option_map bare p.base.unit) (e i)) p.conversion;
        })) { system = k i }

    kept-across : (x : Horizontal) → across r (put_across under x) ≡ arranged_across text (across r x)
    kept-across (horizontals.Geodetic g) = ap horizontals.Geodetic (kept-geodetic g)
    kept-across (horizontals.Projected p) = ap horizontals.Projected (kept-projected p)

    kept : (x : Crs) → renamed r (put_crs under x) ≡ arranged_crs text (renamed r x)
    kept (crs.Geodetic g) = ap crs.Geodetic (kept-geodetic g)
    kept (crs.Projected p) = ap crs.Projected (kept-projected p)
    kept (crs.Vertical v) = ap (λ (s : SystemParts). crs.Vertical (record (vertical r v) { system = s })) (kept-system v.system)
    kept (crs.Compound d) =
        ap (λ (x : Horizontal). crs.Compound (record (compound r d) { horizontal = x; vertical = vertical r (put_vertical under d.vertical) }))
        (kept-across d.horizontal)
        ∙ ap (λ (s : SystemParts). crs.Compound (record (compound r d) {
          horizontal = arranged_across text (across r d.horizontal);
          vertical = record (vertical r d.vertical) { system = s };
        })) (kept-system d.vertical.system)

  pub kept-by : (x : Crs) (b : Bool) → r.uncounted.axis_order ≡ b →
      renamed r (if b then put_crs under x else x) ≡ (if b then arranged_crs text (renamed r x) else renamed r x)
  kept-by x true e = kept e x
  kept-by x false e = refl

pub where-uncounted : (text : AxisParts → List ℕ) (r : Meaning) (x : Crs) → r.uncounted.axis_order ≡ true →
    in_form_order text r x ≡ put_crs (λ a. text (axis r a)) x
where-uncounted text r x e = ap (λ b. if b then put_crs (λ a. text (axis r a)) x else x) e

pub where-counted : (text : AxisParts → List ℕ) (r : Meaning) (x : Crs) → r.uncounted.axis_order ≡ false → in_form_order text r x ≡ x
where-counted text r x e = ap (λ b. if b then put_crs (λ a. text (axis r a)) x else x) e

-- ---- the texts of the axes of a CRS under rules

module _ (text : AxisParts → List ℕ) (r : Meaning) where
  both : (xs : List AxisParts) → map text (map (axis r) xs) ≡ map (λ a. text (axis r a)) xs
  both [] = refl
  both (x ∷ xs) = ap (λ ts. text (axis r x) ∷ ts) (both xs)

  across-under : (x : Crs) → map text (axes_across (renamed r x)) ≡ map (λ a. text (axis r a)) (axes_across x)
  across-under (crs.Geodetic g) = both g.system.axes
  across-under (crs.Projected p) = both p.system.axes
  across-under (crs.Vertical v) = refl
  across-under (crs.Compound c) = along-under c.horizontal
    where
      along-under : (x : Horizontal) → map text (axes_along (across r x)) ≡ map (λ a. text (axis r a)) (axes_along x)
      along-under (horizontals.Geodetic g) = both g.system.axes
      along-under (horizontals.Projected p) = both p.system.axes

  up-under : (x : Crs) → map text (axes_up (renamed r x)) ≡ map (λ a. text (axis r a)) (axes_up x)
  up-under (crs.Geodetic g) = refl
  up-under (crs.Projected p) = refl
  up-under (crs.Vertical v) = both v.system.axes
  up-under (crs.Compound c) = both c.vertical.system.axes

  pub keys-across : (x y : Crs) (axes : List AxisParts) {texts : List (List ℕ)} → texts ≡ map text axes → axes ≡ axes_across y →
      y ≡ renamed r x → texts ≡ map (λ a. text (axis r a)) (axes_across x)
  keys-across x y axes e f g = e ∙ (ap (map text) f ∙ (ap (λ z. map text (axes_across z)) g ∙ across-under x))

  pub keys-up : (x y : Crs) (axes : List AxisParts) {texts : List (List ℕ)} → texts ≡ map text axes → axes ≡ axes_up y →
      y ≡ renamed r x → texts ≡ map (λ a. text (axis r a)) (axes_up x)
  keys-up x y axes e f g = e ∙ (ap (map text) f ∙ (ap (λ z. map text (axes_up z)) g ∙ up-under x))
