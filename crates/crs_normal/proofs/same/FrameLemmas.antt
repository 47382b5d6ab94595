-- Ellipsoids, prime meridians, reference frames and ensembles have one form exactly where they are the same.
use Rattle.std.proofs.Common.{◌≡◌, ◌↔◌, true, Option, Some, None, codes, refl, sym, arith}
use Rattle.crs_decimal.specs.inner.Prelude.{Value, IsNormal}
use Rattle.crs_shape.specs.declared.unit_kind.UnitKind.TheVariants as kinds
use Rattle.crs_value.specs.inner.Prelude.{IsDatum, IsEllipsoid, IsEnsemble, IsMeridian, IsGeodeticFrame, IsVerticalFrame, MeridianParts}
use Rattle.crs_value.specs.declared.values.level.Level.{Level}
use Rattle.crs_same.specs.inner.Prelude.{AgreeDatum, AgreeEllipsoid, AgreeEnsemble, AgreeFrame, AgreeGiven, AgreeMeridian, or_greenwich, IsZero}
use Rattle.crs_normal.specs.inner.Decides.{FormDecides, SetsDecide}
use Rattle.crs_normal.specs.inner.SpelledFrames.{greenwich, is_zero, norm_datum, norm_ellipsoid, norm_ensemble, norm_frame, norm_given, norm_meridian}
use Rattle.crs_normal.specs.inner.SpelledItems.{whole_value}
use Rattle.crs_normal.proofs.same.PartLemmas.{Maybe, NumbersDecide, values-agree}
use Rattle.crs_normal.proofs.same.UnitLemmas.{length-agrees, none-formed, unit-agrees}

-- ---- a missing prime meridian

greenwich-is : IsMeridian greenwich
unfolding lib.Utf8.encode
greenwich-is = record {
  name = ((codes "Greenwich", refl), (codes "Greenwich", (refl, refl)));
  longitude = refl;
  unit = tt;
  identifiers = tt;
}

given-is : (m : Option MeridianParts) → Maybe IsMeridian m → IsMeridian (or_greenwich m)
given-is None is = greenwich-is
given-is (Some m) is = is

-- ---- longitude 0

zero-agrees : NumbersDecide → (v : Value) → IsNormal v → (is_zero v ≡ true) ↔ IsZero v
zero-agrees numbers v in-v = grind (arith, numbers v (whole_value 0) in-v refl)

module _ (numbers : NumbersDecide) (sets : SetsDecide) (level : Level) where
  pub ellipsoid-agrees : FormDecides IsEllipsoid (norm_ellipsoid level) (AgreeEllipsoid level)
  ellipsoid-agrees a b in-a in-b =
      grind (arith, values-agree numbers, length-agrees numbers sets.idents level, sets.idents level)

  -- ---- prime meridians

  pub given-agrees : FormDecides IsMeridian (norm_given level) (AgreeGiven level)
  given-agrees a b in-a in-b =
      grind (
        arith,
        values-agree numbers,
        zero-agrees numbers,
        unit-agrees numbers sets.idents level kinds.Angle,
        sets.idents level,
      )

  -- a missing one has the form of its default
  given-formed : (m : Option MeridianParts) → norm_meridian level m ≡ Some (norm_given level (or_greenwich m))
  given-formed None = λ i. Some (record {
    name = codes "Greenwich";
    longitude = whole_value 0;
    unit = None;
    identifiers = sym (none-formed level) i;
  })
  given-formed (Some m) = refl

  pub meridian-agrees : FormDecides (Maybe IsMeridian) (norm_meridian level) (AgreeMeridian level)
  meridian-agrees a b in-a in-b =
      let same = given-agrees (or_greenwich a) (or_greenwich b) (given-is a in-a) (given-is b in-b) in
      rw (given-formed a, given-formed b) (grind (arith, same))

  -- ---- frames

  pub datum-agrees : FormDecides IsDatum (norm_datum level) (AgreeDatum level)
  datum-agrees a b in-a in-b =
      grind (arith, ellipsoid-agrees, values-agree numbers, sets.idents level)

  pub ensemble-agrees : FormDecides IsEnsemble (norm_ensemble level) (AgreeEnsemble level)
  ensemble-agrees a b in-a in-b =
      grind (arith, sets.members level, ellipsoid-agrees, values-agree numbers, sets.idents level)

  pub geodetic-frame-agrees : FormDecides IsGeodeticFrame (norm_frame level) (AgreeFrame level)
  geodetic-frame-agrees a b in-a in-b = grind (arith, datum-agrees, ensemble-agrees)

  pub vertical-frame-agrees : FormDecides IsVerticalFrame (norm_frame level) (AgreeFrame level)
  vertical-frame-agrees a b in-a in-b = grind (arith, datum-agrees, ensemble-agrees)
