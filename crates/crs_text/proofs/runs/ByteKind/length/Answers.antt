use Rattle.std.proofs.Common.{arith}
use Rattle.crs_text.proofs.tokens.RunLemmas.{run_ends, run_passes, run_bound}
use Rattle.crs_text.proofs.runs.ByteKind.length.Goals as goal

pub returns-then-count-lt-LANES-clause-value : goal.returns-then-count-lt-LANES-clause-value
returns-then-count-lt-LANES-clause-value g c = run_ends g.Self.ByteKind.of_kind c.args.left.now c.loop-at.at _ c.loop-at.invariant (omega arith) c.lanes-count.ensures (omega arith)

pub loop-at-preserved : goal.loop-at-preserved
loop-at-preserved g c = run_passes g.Self.ByteKind.of_kind c.args.left.now c.loop-at.at _ c.loop-at.invariant (omega arith) c.lanes-count.ensures (omega arith)

pub overflow_add-result-2 : goal.overflow_add-result-2
overflow_add-result-2 g c = omega (arith, run_bound g.Self.ByteKind.of_kind c.args.left.now c.loop-at.at _ c.loop-at.invariant _ c.last_length.ensures c.rest_of.ensures)

pub returns-clause-within : goal.returns-clause-within
returns-clause-within g c = omega (arith, run_bound g.Self.ByteKind.of_kind c.args.left.now c.loop-at.at _ c.loop-at.invariant _ c.last_length.ensures c.rest_of.ensures)
