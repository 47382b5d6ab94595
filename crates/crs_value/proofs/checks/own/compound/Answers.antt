use Rattle.std.proofs.Common.{[], ◌∷◌, None, sym}
use Rattle.crs_text.specs.inner.Prelude.{arguments, RefusedAt}
use Rattle.crs_shape.specs.declared.class.Class.{Class}
use Rattle.crs_shape.specs.declared.class.Class.TheVariants as class
use Rattle.crs_value.specs.Checks.{BadComponent, BadComponents, AnyOf, horizontal_classes, once, RepeatsAny}
use Rattle.crs_value.specs.Reading.{those}
use Rattle.crs_value.specs.inner.Arguments.{item_at}
use Rattle.crs_value.proofs.checked.LeastLemmas.{either-is, lesser-none}
use Rattle.crs_value.proofs.checks.own.compound.Goals as goal

pub returns : goal.returns
returns c =
    let items = arguments (item_at c.args.items.now c.args.id) in
    let One : Class → RefusedAt → Type 0 = λ d. AnyOf (BadComponent d) (those class.CompoundCrs d items) in
    either-is (RepeatsAny class.CompoundCrs items once) (BadComponents horizontal_classes items) _ _ _ c.lesser.ensures c.repeated.ensures
    (either-is (One class.GeodeticCrs) (BadComponents (class.GeographicCrs ∷ class.ProjectedCrs ∷ []) items) _ _ _ c.lesser-geodetic.ensures c.bad_part-2.ensures
    (either-is (One class.GeographicCrs) (BadComponents (class.ProjectedCrs ∷ []) items) _ _ _ c.lesser-geographic.ensures c.bad_part.ensures
    (either-is (One class.ProjectedCrs) (BadComponents [] items) _ None _ (sym (lesser-none _)) c.bad_part-projected.ensures (λ f h. h))))
