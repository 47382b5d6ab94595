use Rattle.std.proofs.Common.{rules, arith}
use Rattle.crs_text.specs.inner.Prelude.{arguments}
use Rattle.crs_shape.specs.declared.class.Class.TheVariants as class
use Rattle.crs_value.specs.inner.Prelude.{item_at}
use Rattle.crs_writer.proofs.CountedAxisLemmas.{counting-end, counting-first, counting-less, counting-on}
use Rattle.crs_writer.proofs.axes.axis_count.Goals as goal

pub loop-at-init : goal.loop-at-init
loop-at-init c = search (rules, counting-first)

pub loop-at-preserved : goal.loop-at-preserved
loop-at-preserved c = let so = rw c.in-Some.is at c.loop-at.invariant in search (rules, counting-on)

pub overflow_add-count : goal.overflow_add-count
overflow_add-count c =
    omega (
      arith,
      counting-less c.args.items.now c.args.class class.Axis (arguments (item_at c.args.items.now c.args.id)) c.loop-at.count c.in-Some.axis
          (rw c.in-Some.is at c.loop-at.invariant),
      c.arg_count-bound.ensures,
      c.arg_count-bound.type_inv,
    )

pub returns : goal.returns
returns c = let so = rw c.in_default.is at c.loop-at.invariant in search (rules, counting-end)
