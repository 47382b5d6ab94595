-- Coordinate reference systems have one form exactly where they agree.
use Rattle.std.proofs.Common.{ℕ, List, length, arith}
use Rattle.crs_shape.specs.declared.class.Class.TheVariants as class
use Rattle.crs_shape.specs.declared.unit_kind.UnitKind.TheVariants as kinds
use Rattle.crs_shape.specs.declared.system_type.SystemType.{SystemType}
use Rattle.crs_shape.specs.inner.Prelude.{IsOneOf, dimensions_of}
use Rattle.crs_value.specs.inner.Prelude.{IsCompound, IsHorizontal, IsCrs, IsBase, IsGeodetic, IsProjected, IsVertical, IsSystem, SystemParts}
use Rattle.crs_value.specs.declared.values.level.Level.{Level}
use Rattle.crs_same.specs.inner.Prelude.{AgreeBase, AgreeCompound, AgreeCrs, AgreeGeodetic, AgreeHorizontal, AgreeProjected, AgreeVertical}
use Rattle.crs_normal.specs.inner.Decides.{FormDecides, SetsDecide}
use Rattle.crs_normal.specs.inner.LowerLaws.{LowerLaws}
use Rattle.crs_normal.specs.inner.SpelledCrs.{norm_base, norm_compound, norm_crs, norm_geodetic, norm_horizontal, norm_projected, norm_vertical}
use Rattle.crs_normal.proofs.same.ConversionLemmas.{conversion-agrees}
use Rattle.crs_normal.proofs.normal.DimensionLemmas.{small-geodetic, small-projected, small-vertical, AreSmall, few-axes}
use Rattle.crs_normal.proofs.same.DynamicLemmas.{dynamic-agrees}
use Rattle.crs_normal.proofs.same.FrameLemmas.{geodetic-frame-agrees, meridian-agrees, vertical-frame-agrees}
use Rattle.crs_normal.proofs.same.SystemLemmas.{IsNumbered, system-agrees}
use Rattle.crs_normal.proofs.same.TailLemmas.{tail-agrees}
use Rattle.crs_normal.proofs.same.UnitLemmas.{unit-agrees}

-- ---- the number of axes is small

numbered : LowerLaws → (dimensions : SystemType → List ℕ) → ((t : SystemType) → AreSmall (dimensions t)) →
    (system : SystemParts) → IsSystem system → IsOneOf system.dimension (dimensions system.system_type) →
    IsNumbered system
numbered laws dimensions small system sound one =
    let few = few-axes laws.symmetric laws.transitive system.dimension (length system.axes)
    (dimensions system.system_type) (small system.system_type) one sound.count in
    (sound, omega (arith, few))

module _ (laws : LowerLaws) (sets : SetsDecide) (level : Level) where
  -- ---- geodetic and geographic CRSs

  pub geodetic-agrees : FormDecides IsGeodetic (norm_geodetic level) (AgreeGeodetic level)
  geodetic-agrees a b in-a in-b =
      let dynamic = dynamic-agrees laws.normal_is_one sets level in
      let in-dimensions = numbered laws (dimensions_of class.GeodeticCrs) small-geodetic in
      let system = system-agrees laws sets level a.system b.system (in-dimensions a.system in-a.system in-a.dimension)
      (in-dimensions b.system in-b.system in-b.dimension) in
      let frame = geodetic-frame-agrees laws.normal_is_one sets level in
      let meridian = meridian-agrees laws.normal_is_one sets level in
      grind (arith, dynamic, frame, meridian, system, tail-agrees sets level)

  -- ---- projected CRSs

  pub base-agrees : FormDecides IsBase (norm_base level) (AgreeBase level)
  base-agrees a b in-a in-b =
      let dynamic = dynamic-agrees laws.normal_is_one sets level in
      let frame = geodetic-frame-agrees laws.normal_is_one sets level in
      let meridian = meridian-agrees laws.normal_is_one sets level in
      let unit = unit-agrees laws.normal_is_one sets.idents level kinds.Angle in
      grind (arith, dynamic, frame, meridian, unit, sets.idents level)

  pub projected-agrees : FormDecides IsProjected (norm_projected level) (AgreeProjected level)
  projected-agrees a b in-a in-b =
      let in-dimensions = numbered laws (dimensions_of class.ProjectedCrs) small-projected in
      let system = system-agrees laws sets level a.system b.system (in-dimensions a.system in-a.system in-a.dimension)
      (in-dimensions b.system in-b.system in-b.dimension) in
      let base = base-agrees a.base b.base in-a.base in-b.base in
      let conversion = conversion-agrees sets level a.conversion b.conversion in-a.conversion in-b.conversion in
      let tail = tail-agrees sets level a.tail b.tail in-a.tail in-b.tail in
      grind (arith, base, conversion, system, tail)

  -- ---- vertical CRSs

  pub vertical-agrees : FormDecides IsVertical (norm_vertical level) (AgreeVertical level)
  vertical-agrees a b in-a in-b =
      let dynamic = dynamic-agrees laws.normal_is_one sets level in
      let in-dimensions = numbered laws (dimensions_of class.VerticalCrs) small-vertical in
      let system = system-agrees laws sets level a.system b.system (in-dimensions a.system in-a.system in-a.dimension)
      (in-dimensions b.system in-b.system in-b.dimension) in
      grind (arith, dynamic, vertical-frame-agrees laws.normal_is_one sets level, system, sets.geoid_models level, tail-agrees sets level)

  -- ---- compound CRSs

  pub horizontal-agrees : FormDecides IsHorizontal (norm_horizontal level) (AgreeHorizontal level)
  horizontal-agrees a b in-a in-b = grind (arith, geodetic-agrees, projected-agrees)

  pub compound-agrees : FormDecides IsCompound (norm_compound level) (AgreeCompound level)
  compound-agrees a b in-a in-b =
      let plane = horizontal-agrees a.horizontal b.horizontal in-a.horizontal in-b.horizontal in
      let height = vertical-agrees a.vertical b.vertical in-a.vertical in-b.vertical in
      let tail = tail-agrees sets level a.tail b.tail in-a.tail in-b.tail in
      grind (arith, plane, height, tail)

  -- ---- all

  pub crs-agrees : FormDecides IsCrs (norm_crs level) (AgreeCrs level)
  crs-agrees a b in-a in-b = grind (arith, geodetic-agrees, projected-agrees, vertical-agrees, compound-agrees)
