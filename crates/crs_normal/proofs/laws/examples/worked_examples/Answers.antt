use Rattle.std.proofs.Common.{◌≡◌, ℕ, List, refl}
use Rattle.std.specs.Fmt.{digits}
use Rattle.crs_shape.specs.inner.Prelude.{is_keyword, root_named, class_named, every_direction, every_type}
use Rattle.crs_shape.specs.declared.class.Class.{Class}
use Rattle.crs_shape.specs.declared.class.Class.TheVariants as class
use Rattle.crs_value.specs.inner.Prelude.{ReadsCrs}
use Rattle.crs_value.specs.declared.values.crs.Crs.{Crs}
use Rattle.crs_value.specs.declared.values.crs.Crs.TheVariants as crs
use Rattle.crs_value.specs.declared.values.level.Level.TheVariants as levels
use Rattle.crs_normal.specs.inner.Examples as example
use Rattle.crs_normal.specs.inner.LowerLaws.{LowerLaws}
use Rattle.crs_normal.proofs.verdicts.ExampleLemmas.{IsRead, is-normal, is-otherwise, placed, read-here}
use Rattle.crs_normal.proofs.verdicts.NormalVerdict.{normal_in}
use Rattle.crs_normal.proofs.verdicts.Verdicts.{Fails, Holds}
use Rattle.crs_normal.proofs.laws.examples.worked_examples.Goals as goal

says-more : (l : LowerLaws) (c : Class) (bytes : List ℕ) → IsRead l c bytes →
    Holds (normal_in l levels.Full c c (placed bytes)) →
    Fails (normal_in l levels.Definition c c (placed bytes)) → example.SaysMore bytes
says-more l c bytes r h f = (is-normal l levels.Full c bytes r h, is-otherwise l levels.Definition c bytes r f)

no-value : (value : Crs) → ReadsCrs class.VerticalCrs (placed example.name_alone) value → ⊥
unfolding class_named is_keyword
no-value (crs.Geodetic g) h = h.0
no-value (crs.Projected p) h = let k : class.VerticalCrs ≡ class.ProjectedCrs = h.0 in cc
no-value (crs.Vertical v) h = h.1.system.head
no-value (crs.Compound p) h = let k : class.VerticalCrs ≡ class.CompoundCrs = h.0 in cc

pub returns : goal.returns
unfolding digits class_named every_direction every_type is_keyword lib.Utf8.encode root_named
returns c = record {
  normal = let l = c.lower_laws.ensures in (
    is-normal l levels.Full class.VerticalCrs example.height (refl, refl, tt, tt, tt) tt,
    is-normal l levels.Full class.GeographicCrs example.geographic (refl, refl, tt, tt, tt) tt,
    is-normal l levels.Full class.GeographicCrs example.wgs_84 (refl, refl, tt, tt, tt) tt,
    is-normal l levels.Full class.ProjectedCrs example.utm_zone (refl, refl, tt, tt, tt) tt,
    is-normal l levels.Full class.CompoundCrs example.with_height (refl, refl, tt, tt, tt) tt,
    is-normal l levels.Full class.VerticalCrs example.dynamic_height (refl, refl, tt, tt, tt) tt,
    is-normal l levels.Full class.GeographicCrs example.dynamic_geographic (refl, refl, tt, tt, tt) tt,
  );
  by_definition = let l = c.lower_laws.ensures in (
    is-normal l levels.Definition class.VerticalCrs example.height (refl, refl, tt, tt, tt) tt,
    is-normal l levels.Definition class.GeographicCrs example.geographic (refl, refl, tt, tt, tt) tt,
    is-normal l levels.Definition class.GeographicCrs example.wgs_84_alone (refl, refl, tt, tt, tt) tt,
    is-normal l levels.Definition class.VerticalCrs example.dynamic_height (refl, refl, tt, tt, tt) tt,
  );
  at_full_alone = let l = c.lower_laws.ensures in (
    says-more l class.VerticalCrs example.unit_with_identifier (refl, refl, tt, tt, tt) tt tt,
    says-more l class.VerticalCrs example.with_identifier (refl, refl, tt, tt, tt) tt tt,
    says-more l class.VerticalCrs example.with_usage (refl, refl, tt, tt, tt) tt tt,
    says-more l class.VerticalCrs example.with_remark (refl, refl, tt, tt, tt) tt tt,
    says-more l class.GeographicCrs example.dynamic_geographic (refl, refl, tt, tt, tt) tt tt,
  );
  dynamics = let l = c.lower_laws.ensures in (
    is-otherwise l levels.Full class.VerticalCrs example.velocity_grid (refl, refl, tt, tt, tt) tt,
    is-otherwise l levels.Full class.VerticalCrs example.frame_epoch_with_fraction (refl, refl, tt, tt, tt) tt,
    is-otherwise l levels.Full class.VerticalCrs example.anchor_epoch_with_fraction (refl, refl, tt, tt, tt) tt,
    is-otherwise l levels.Full class.VerticalCrs example.anchor_epoch_first (refl, refl, tt, tt, tt) tt,
  );
  heights = let l = c.lower_laws.ensures in (
    is-otherwise l levels.Full class.VerticalCrs example.second_keyword (refl, refl, tt, tt, tt) tt,
    is-otherwise l levels.Full class.VerticalCrs example.no_order (refl, refl, tt, tt, tt) tt,
    is-otherwise l levels.Full class.VerticalCrs example.unit_of_no_kind (refl, refl, tt, tt, tt) tt,
    is-otherwise l levels.Full class.VerticalCrs example.shared_unit (refl, refl, tt, tt, tt) tt,
    is-otherwise l levels.Full class.VerticalCrs example.factor_with_zero (refl, refl, tt, tt, tt) tt,
    is-otherwise l levels.Full class.VerticalCrs example.capital_direction (refl, refl, tt, tt, tt) tt,
    is-otherwise l levels.Full class.VerticalCrs example.quoted_code (refl, refl, tt, tt, tt) tt,
    is-otherwise l levels.Full class.VerticalCrs example.long_code (refl, refl, tt, tt, tt) tt,
    is-otherwise l levels.Full class.VerticalCrs example.identifiers_fall (refl, refl, tt, tt, tt) tt,
    is-otherwise l levels.Full class.VerticalCrs example.identifier_twice (refl, refl, tt, tt, tt) tt,
    is-otherwise l levels.Full class.VerticalCrs example.bare_scope (refl, refl, tt, tt, tt) tt,
    is-otherwise l levels.Full class.VerticalCrs example.usages_fall (refl, refl, tt, tt, tt) tt,
    is-otherwise l levels.Full class.VerticalCrs example.usage_twice (refl, refl, tt, tt, tt) tt,
    is-otherwise l levels.Full class.VerticalCrs example.remark_first (refl, refl, tt, tt, tt) tt,
  );
  geographics = let l = c.lower_laws.ensures in (
    is-otherwise l levels.Full class.GeographicCrs example.meridian_with_unit (refl, refl, tt, tt, tt) tt,
    is-otherwise l levels.Full class.GeographicCrs example.no_meridian (refl, refl, tt, tt, tt) tt,
    is-otherwise l levels.Full class.GeodeticCrs example.geodetic_for_geographic (refl, refl, tt, tt, tt) tt,
    is-otherwise l levels.Full class.GeographicCrs example.no_unit_of_ellipsoid (refl, refl, tt, tt, tt) tt,
    is-otherwise l levels.Full class.GeographicCrs example.orders_fall (refl, refl, tt, tt, tt) tt,
  );
  beyond = let l = c.lower_laws.ensures in (
    is-normal l levels.Full class.VerticalCrs example.name_alone (refl, refl, tt, tt, tt) tt,
    λ value s. no-value value (read-here l class.VerticalCrs example.name_alone (refl, refl, tt, tt, tt) value s),
  );
}
