use Rattle.std.proofs.Common.{arith}
use Rattle.crs_text.specs.Items.{arguments, first_of, here}
use Rattle.crs_text.proofs.rows.IdLemmas.{skip-past, at_next}
use Rattle.crs_text.proofs.items.Items.arg.Goals as goal

pub returns-in_err-at : goal.returns-in_err-at
returns-in_err-at c =
    let items = arguments (first_of (here c.args.self.now c.args.id)) in
    rw c.from_residual.ensures
    (skip-past c.loop-step._step c.args.i items (rw c.in_err-at.was at c.loop-step.invariant) (omega arith))

pub loop-step-preserved : goal.loop-step-preserved
loop-step-preserved c =
    at_next c.args.self.now (arguments (first_of (here c.args.self.now c.args.id))) c.loop-step._step c.in_ok-at.field-0 c.next-at.result
    (rw c.in_ok-at.was at c.loop-step.invariant)
    c.next-at.ensures
