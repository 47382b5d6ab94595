use Rattle.crs_text.specs.inner.Prelude.{arguments}
use Rattle.crs_shape.specs.declared.class.Class.TheVariants as class
use Rattle.crs_value.specs.inner.Cursor.{item}
use Rattle.crs_value.specs.Checks.{BadDynamic, BadOrder, BadUnit, AnyOf, OfAxes}
use Rattle.crs_value.specs.Reading.{those}
use Rattle.crs_value.proofs.checked.LeastLemmas.{either-is}
use Rattle.crs_value.proofs.checks.crs.of_axes.Goals as goal

pub returns : goal.returns
returns c =
    let node = c.args.node.now in
    let items = arguments (item node) in
    let systems = those node.class class.CoordinateSystem items in
    let axes = those node.class class.Axis items in
    let units = those node.class class.AxisUnit items in
    either-is (OfAxes systems axes units) (BadDynamic node.class (item node)) _ _ _ c.lesser.ensures
    (either-is (BadOrder axes) (AnyOf (BadUnit axes units) systems) _ _ _ c.lesser-axes.ensures c.bad_order.ensures c.bad_unit.ensures) c.bad_dynamic.ensures
