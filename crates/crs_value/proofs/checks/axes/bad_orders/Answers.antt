use Rattle.std.proofs.Common.{arith}
use Rattle.crs_text.specs.inner.Prelude.{arguments}
use Rattle.crs_shape.specs.declared.class.Class.TheVariants as class
use Rattle.crs_value.specs.inner.Cursor.{item}
use Rattle.crs_value.proofs.checked.CheckLemmas.{more-are-left, ordering-first, ordering-on, those-few}
use Rattle.crs_value.proofs.checks.axes.bad_orders.Goals as goal

pub loop-at-init : goal.loop-at-init
loop-at-init c = ordering-first _ _ (item c.args.crs.now) c.args.firsts.now.axes c.args.firsts.now.axis c.requires.shaped c.requires.firsts.axes c.requires.firsts.axis

pub loop-at-preserved : goal.loop-at-preserved
loop-at-preserved c =
    ordering-on _ _ _ c.args.firsts.now.axes c.loop-at.before c.loop-at.least c.wrong_order.result c.lesser-least.result c.in-Some.axis c.later-at.result
    (rw c.in-Some.is at c.loop-at.invariant) c.wrong_order.ensures c.lesser-least.ensures c.later-at.ensures

pub overflow_add-before : goal.overflow_add-before
overflow_add-before c =
    let left = more-are-left _ _ _ _ _ _ c.in-Some.axis (rw c.in-Some.is at c.loop-at.invariant) in
    omega (arith, left, those-few c.args.crs.now.class class.Axis (arguments (item c.args.crs.now)), c.arg_count-bound.ensures, c.arg_count-bound.type_inv)
