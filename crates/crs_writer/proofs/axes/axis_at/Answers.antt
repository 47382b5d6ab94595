use Rattle.std.proofs.Common.{rules, sym, arith, ◌∙◌}
use Rattle.crs_text.specs.inner.Prelude.{arguments}
use Rattle.crs_shape.specs.declared.class.Class.TheVariants as class
use Rattle.crs_value.specs.inner.Prelude.{item_at, those, ReadsAxis}
use Rattle.crs_writer.proofs.CountedAxisLemmas.{counting-less, seeking-first, seeking-on}
use Rattle.crs_writer.proofs.axes.axis_at.Goals as goal

pub loop-at-init : goal.loop-at-init
loop-at-init c = search (rules, seeking-first)

pub overflow_add-index : goal.overflow_add-index
overflow_add-index c =
    omega (
      arith,
      counting-less c.args.items.now c.args.class class.Axis (arguments (item_at c.args.items.now c.args.id)) c.loop-at.index c.in-Some.axis
          (rw c.in-Some.is at c.loop-at.invariant).counting,
      c.arg_count-bound.ensures,
      c.arg_count-bound.type_inv,
    )

pub overflow_add-index-in-Some : goal.overflow_add-index-in-Some
overflow_add-index-in-Some c =
    omega (
      arith,
      counting-less c.args.items.now c.args.class class.Axis (arguments (item_at c.args.items.now c.args.id)) c.loop-at.index c.in-Some.axis
          (rw c.in-Some.is at c.loop-at.invariant).counting,
      c.arg_count-bound.ensures,
      c.arg_count-bound.type_inv,
    )

pub loop-at-preserved : goal.loop-at-preserved
loop-at-preserved c =
    let tree = c.args.items.now in
    seeking-on ReadsAxis c.args.position tree c.args.class class.Axis (those c.args.class class.Axis (arguments (item_at tree c.args.id))) c.loop-at.index
    c.in-Some.axis c.later-at.result (rw c.in-Some.is at c.loop-at.invariant)
    (λ axis reads. sym c.if-is_axis_at.false ∙ c.is_axis_at.ensures axis reads) c.later-at.ensures.holds c.later-at.ensures.all
