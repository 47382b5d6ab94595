use Rattle.std.proofs.Common.{◌+◌, ◌-◌, length, arith}
use Rattle.crs_writer.proofs.AxisLemmas.{axes-ended}
use Rattle.crs_writer.proofs.NodeTextLemmas.{next-axis}
use Rattle.crs_writer.proofs.spelling.system.write_axes.Goals as goal

pub loop-index-preserved : goal.loop-index-preserved
loop-index-preserved g c = λ s type said.
    let n = length s.axes in
    let k = c.loop-index.index in
    let counted = c.axis_count-count.ensures s said in
    next-axis c.args.level s (k + 1) (n - k) (n - (k + 1)) _ _ _ (omega (arith, c.loop-index-test.true, counted))
    (c.loop-index.invariant s type said) (c.in_ok-put_axis.ensures s type said)

pub returns : goal.returns
returns g c = λ s type said.
    let k = c.loop-index.index in
    let counted = c.axis_count-count.ensures s said in
    axes-ended c.args.level s (k + 1) (length s.axes - k) _ _ (omega (arith, c.loop-index-test.false, counted))
    (c.loop-index.invariant s type said)
