-- What a coordinate reference system says, where it is sound and its tokens are well formed: there is a value.
use Rattle.std.proofs.Common.{◌≡◌, inl, inr, Some, None, List, [], ◌∷◌, refl, sym, subst, arith}
use Rattle.crs_text.specs.inner.Prelude.{Item, arguments}
use Rattle.crs_shape.specs.declared.class.Class.{Class}
use Rattle.crs_shape.specs.declared.class.Class.TheVariants as class
use Rattle.crs_shape.specs.inner.Prelude.{root_classes}
use Rattle.crs_value.specs.declared.values.compound.Horizontal.{Horizontal}
use Rattle.crs_value.specs.declared.values.compound.Horizontal.TheVariants as horizontals
use Rattle.crs_value.specs.declared.values.crs.Crs.TheVariants as crs
use Rattle.crs_value.specs.declared.values.frame.Frame.TheVariants as frames
use Rattle.crs_value.specs.inner.ReadOnce.{IsSound, IsUnitClass}
use Rattle.crs_value.specs.inner.Arguments.{IsAmong, Requires, RequiresOneOf}
use Rattle.crs_value.specs.Reading.{Each, those, ReadsFirst, ReadsElse, ReadsNamed}
use Rattle.crs_value.specs.Reads.{ReadsNumberOf, ReadsUnit, ReadsMeridian, ReadsAsUnit, ReadsUnitOf, parameter_units, ReadsParameter, ReadsConversion, ReadsDynamic}
use Rattle.crs_value.specs.ReadsCrs.{IsGeodeticClass, ReadsAsDatum, ReadsAsEnsemble, ReadsFrame, ReadsGeodetic, ReadsBase, ReadsProjected, ReadsVertical, ReadsAsHorizontal, ReadsHorizontal, ReadsCompound, ReadsCrs}
use Rattle.crs_value.proofs.found.ArgumentLemmas.{SlotsCount, arguments-sound, one-there}
use Rattle.crs_value.proofs.some.FormedLemmas.{Numbers}
use Rattle.crs_value.proofs.some.ValueLemmas.{Exists, first-of, else-of, text-some, number-of-some, identifiers-some, named-some, unit-some, first-some, optional-some, each-some, system-some, meridian-some, datum-some, ensemble-some, tail-some}

module _ (numbers : Numbers) (slots : SlotsCount) where
  -- ---- conversions

  as_unit-some : (d : Class) → IsUnitClass d → (item : Item) → IsSound d item → Exists (ReadsAsUnit d item)
  as_unit-some d is item g = let unit = unit-some numbers slots d is item g in (Some unit.0, unit.1)

  unit_of-some : (ds : List Class) → Each IsUnitClass ds → (c : Class) (item : Item) → IsSound c item → Exists (ReadsUnitOf ds c item)
  unit_of-some [] are c item g = (None, tt)
  unit_of-some (d ∷ ds) are c item g =
      else-of (ReadsAsUnit d) (ReadsUnitOf ds c item) d (as_unit-some d are.0) (those c d (arguments item)) (arguments-sound c d item g) (λ e. unit_of-some ds are.1 c item g)

  parameter-some : (item : Item) → IsSound class.Parameter item → Exists (ReadsParameter class.Parameter item)
  parameter-some item g =
      let name = text-some numbers slots class.Parameter item g (omega arith) in
      let value = number-of-some numbers slots class.Parameter item g (omega arith) in
      let unit = unit_of-some parameter_units (tt, (tt, (tt, (tt, tt)))) class.Parameter item g in
      let identifiers = identifiers-some numbers slots class.Parameter item g in
      (record { name = name.0; value = value.0; unit = unit.0; identifiers = identifiers.0 }, record { name = name.1; value = value.1; unit = unit.1; identifiers = identifiers.1 })

  conversion-some : (item : Item) → IsSound class.Conversion item → Exists (ReadsConversion class.Conversion item)
  conversion-some item g =
      let name = text-some numbers slots class.Conversion item g (omega arith) in
      let method = first-some numbers slots (ReadsNamed class.Method) class.Conversion class.Method item g (omega arith) (named-some numbers slots class.Method (omega arith)) in
      let parameters = each-some numbers slots (ReadsParameter class.Parameter) class.Conversion class.Parameter item g (parameter-some) in
      let identifiers = identifiers-some numbers slots class.Conversion item g in
      (record { name = name.0; method = method.0; parameters = parameters.0; identifiers = identifiers.0 }, record { name = name.1; method = method.1; parameters = parameters.1; identifiers = identifiers.1 })

  -- ---- dynamic parts

  dynamic-some : (item : Item) → IsSound class.Dynamic item → Exists (ReadsDynamic class.Dynamic item)
  dynamic-some item g =
      let epoch = first-some numbers slots (ReadsNumberOf class.FrameEpoch) class.Dynamic class.FrameEpoch item g (omega arith) (λ i h. number-of-some numbers slots class.FrameEpoch i h (omega arith)) in
      let model = optional-some numbers slots (ReadsNamed class.DeformationModel) class.Dynamic class.DeformationModel item g (named-some numbers slots class.DeformationModel (omega arith)) in
      (record { epoch = epoch.0; model = model.0 }, record { epoch = epoch.1; model = model.1 })

  -- ---- coordinate reference systems

  as_datum-some : (d : Class) → Requires d class.Text 0 → (item : Item) → IsSound d item → Exists (ReadsAsDatum d item)
  as_datum-some d named item g = let datum = datum-some numbers slots d named item g in (frames.Datum datum.0, datum.1)

  as_ensemble-some : (e : Class) → Requires e class.Text 0 → Requires e class.EnsembleAccuracy 0 → (item : Item) → IsSound e item → Exists (ReadsAsEnsemble e item)
  as_ensemble-some e named exact item g = let ensemble = ensemble-some numbers slots e named exact item g in (frames.Ensemble ensemble.0, ensemble.1)

  frame-some : (d e c : Class) (item : Item) → IsSound c item → RequiresOneOf c (d ∷ e ∷ []) → Requires d class.Text 0 → Requires e class.Text 0 → Requires e class.EnsembleAccuracy 0 →
      Exists (ReadsFrame d e c item)
  frame-some d e c item g some named called exact =
      else-of (ReadsAsDatum d) (ReadsFirst (ReadsAsEnsemble e) (those c e (arguments item))) d (as_datum-some d named) (those c d (arguments item)) (arguments-sound c d item g)
      (λ none. first-of (ReadsAsEnsemble e) e (as_ensemble-some e called exact) (those c e (arguments item))
      (λ empty. one-there slots c (d ∷ e ∷ []) item g.shaped some (none, (empty, tt))) (arguments-sound c e item g))

  geodetic-needs : (c : Class) → IsGeodeticClass c →
      Requires c class.Text 0 × (RequiresOneOf c (class.GeodeticFrame ∷ class.GeodeticEnsemble ∷ []) × Requires c class.CoordinateSystem 0)
  geodetic-needs class.GeodeticCrs is = (omega arith, (omega arith, omega arith))
  geodetic-needs class.GeographicCrs is = (omega arith, (omega arith, omega arith))
  geodetic-needs other is = absurd is

  geodetic-some : (c : Class) → IsGeodeticClass c → (item : Item) → IsSound c item → Exists (ReadsGeodetic c item)
  geodetic-some c is item g =
      let name = text-some numbers slots c item g (geodetic-needs c is).0 in
      let dynamic = optional-some numbers slots (ReadsDynamic class.Dynamic) c class.Dynamic item g (dynamic-some) in
      let frame = frame-some class.GeodeticFrame class.GeodeticEnsemble c item g (geodetic-needs c is).1.0 (omega arith) (omega arith) (omega arith) in
      let meridian = optional-some numbers slots (ReadsMeridian class.PrimeMeridian) c class.PrimeMeridian item g (meridian-some numbers slots) in
      let system = system-some numbers slots c item g (geodetic-needs c is).1.1 in
      let tail = tail-some numbers slots c item g in
      (record { name = name.0; dynamic = dynamic.0; frame = frame.0; meridian = meridian.0; system = system.0; tail = tail.0 }, record { name = name.1; dynamic = dynamic.1; frame = frame.1; meridian = meridian.1; system = system.1; tail = tail.1 })

  base-some : (item : Item) → IsSound class.BaseCrs item → Exists (ReadsBase class.BaseCrs item)
  base-some item g =
      let name = text-some numbers slots class.BaseCrs item g (omega arith) in
      let dynamic = optional-some numbers slots (ReadsDynamic class.Dynamic) class.BaseCrs class.Dynamic item g (dynamic-some) in
      let frame = frame-some class.GeodeticFrame class.GeodeticEnsemble class.BaseCrs item g (omega arith) (omega arith) (omega arith) (omega arith) in
      let meridian = optional-some numbers slots (ReadsMeridian class.PrimeMeridian) class.BaseCrs class.PrimeMeridian item g (meridian-some numbers slots) in
      let unit = optional-some numbers slots (ReadsUnit class.AngleUnit) class.BaseCrs class.AngleUnit item g (unit-some numbers slots class.AngleUnit tt) in
      let identifiers = identifiers-some numbers slots class.BaseCrs item g in
      (record { name = name.0; dynamic = dynamic.0; frame = frame.0; meridian = meridian.0; unit = unit.0; identifiers = identifiers.0 }, record { name = name.1; dynamic = dynamic.1; frame = frame.1; meridian = meridian.1; unit = unit.1; identifiers = identifiers.1 })

  projected-some : (item : Item) → IsSound class.ProjectedCrs item → Exists (ReadsProjected class.ProjectedCrs item)
  projected-some item g =
      let name = text-some numbers slots class.ProjectedCrs item g (omega arith) in
      let base = first-some numbers slots (ReadsBase class.BaseCrs) class.ProjectedCrs class.BaseCrs item g (omega arith) (base-some) in
      let conversion = first-some numbers slots (ReadsConversion class.Conversion) class.ProjectedCrs class.Conversion item g (omega arith) (conversion-some) in
      let system = system-some numbers slots class.ProjectedCrs item g (omega arith) in
      let tail = tail-some numbers slots class.ProjectedCrs item g in
      (record { name = name.0; base = base.0; conversion = conversion.0; system = system.0; tail = tail.0 }, record { name = name.1; base = base.1; conversion = conversion.1; system = system.1; tail = tail.1 })

  vertical-some : (item : Item) → IsSound class.VerticalCrs item → Exists (ReadsVertical class.VerticalCrs item)
  vertical-some item g =
      let name = text-some numbers slots class.VerticalCrs item g (omega arith) in
      let dynamic = optional-some numbers slots (ReadsDynamic class.Dynamic) class.VerticalCrs class.Dynamic item g (dynamic-some) in
      let frame = frame-some class.VerticalFrame class.VerticalEnsemble class.VerticalCrs item g (omega arith) (omega arith) (omega arith) (omega arith) in
      let system = system-some numbers slots class.VerticalCrs item g (omega arith) in
      let geoid_models = each-some numbers slots (ReadsNamed class.GeoidModel) class.VerticalCrs class.GeoidModel item g (named-some numbers slots class.GeoidModel (omega arith)) in
      let tail = tail-some numbers slots class.VerticalCrs item g in
      (record { name = name.0; dynamic = dynamic.0; frame = frame.0; system = system.0; geoid_models = geoid_models.0; tail = tail.0 }, record { name = name.1; dynamic = dynamic.1; frame = frame.1; system = system.1; geoid_models = geoid_models.1; tail = tail.1 })

  as_geodetic-some : (c : Class) → IsGeodeticClass c → (item : Item) → IsSound c item → Exists (ReadsAsHorizontal c item)
  as_geodetic-some c is item g = let geodetic = geodetic-some c is item g in (horizontals.Geodetic geodetic.0, (is, geodetic.1))

  as_projected-some : (item : Item) → IsSound class.ProjectedCrs item → Exists (ReadsAsHorizontal class.ProjectedCrs item)
  as_projected-some item g = let projected = projected-some item g in (horizontals.Projected projected.0, (refl, projected.1))

  horizontal-some : (item : Item) → IsSound class.CompoundCrs item → Exists (ReadsHorizontal class.CompoundCrs item)
  horizontal-some item g =
      else-of (ReadsAsHorizontal class.GeodeticCrs) Geographic class.GeodeticCrs (as_geodetic-some class.GeodeticCrs tt) (those class.CompoundCrs class.GeodeticCrs (arguments item))
      (arguments-sound class.CompoundCrs class.GeodeticCrs item g) geographic
    where
      Projected : Horizontal → Type 0
      Projected value = ReadsFirst (ReadsAsHorizontal class.ProjectedCrs) (those class.CompoundCrs class.ProjectedCrs (arguments item)) value

      Geographic : Horizontal → Type 0
      Geographic value = ReadsElse (ReadsAsHorizontal class.GeographicCrs) (those class.CompoundCrs class.GeographicCrs (arguments item)) Projected value

      geographic : those class.CompoundCrs class.GeodeticCrs (arguments item) ≡ [] → Exists Geographic
      geographic none =
          else-of (ReadsAsHorizontal class.GeographicCrs) Projected class.GeographicCrs (as_geodetic-some class.GeographicCrs tt)
          (those class.CompoundCrs class.GeographicCrs (arguments item)) (arguments-sound class.CompoundCrs class.GeographicCrs item g)
          (λ lacks. first-of (ReadsAsHorizontal class.ProjectedCrs) class.ProjectedCrs as_projected-some (those class.CompoundCrs class.ProjectedCrs (arguments item))
          (λ empty. one-there slots class.CompoundCrs (class.GeodeticCrs ∷ class.GeographicCrs ∷ class.ProjectedCrs ∷ []) item g.shaped (omega arith) (none, (lacks, (empty, tt))))
          (arguments-sound class.CompoundCrs class.ProjectedCrs item g))

  compound-some : (item : Item) → IsSound class.CompoundCrs item → Exists (ReadsCompound class.CompoundCrs item)
  compound-some item g =
      let name = text-some numbers slots class.CompoundCrs item g (omega arith) in
      let horizontal = horizontal-some item g in
      let vertical = first-some numbers slots (ReadsVertical class.VerticalCrs) class.CompoundCrs class.VerticalCrs item g (omega arith) (vertical-some) in
      let tail = tail-some numbers slots class.CompoundCrs item g in
      (record { name = name.0; horizontal = horizontal.0; vertical = vertical.0; tail = tail.0 }, record { name = name.1; horizontal = horizontal.1; vertical = vertical.1; tail = tail.1 })

  abbrev Read : Item → Class → Type 0
  Read item c = IsSound c item → Exists (ReadsCrs c item)

  as_crs-some : (c : Class) → IsGeodeticClass c → (item : Item) → Read item c
  as_crs-some c is item g = let geodetic = geodetic-some c is item g in (crs.Geodetic geodetic.0, (is, geodetic.1))

  pub crs-some : (item : Item) (c : Class) → IsAmong root_classes c → IsSound c item → Exists (ReadsCrs c item)
  crs-some item c (inl e) = subst (Read item) (sym e) (as_crs-some class.GeodeticCrs tt item)
  crs-some item c (inr (inl e)) = subst (Read item) (sym e) (as_crs-some class.GeographicCrs tt item)
  crs-some item c (inr (inr (inl e))) = subst (Read item) (sym e) (λ g. let projected = projected-some item g in (crs.Projected projected.0, (refl, projected.1)))
  crs-some item c (inr (inr (inr (inl e)))) = subst (Read item) (sym e) (λ g. let vertical = vertical-some item g in (crs.Vertical vertical.0, (refl, vertical.1)))
  crs-some item c (inr (inr (inr (inr (inl e))))) = subst (Read item) (sym e) (λ g. let compound = compound-some item g in (crs.Compound compound.0, (refl, compound.1)))
  crs-some item c (inr (inr (inr (inr (inr no_class))))) = absurd no_class
