use Rattle.std.proofs.Common.{length, ◌-◌}
use Rattle.crs_rules.proofs.SortLemmas.{AllSink}
use Rattle.crs_rules.proofs.rewriting.order.sink.Given as goal

abbrev pub invariant-loop-axes : goal.invariant-loop-axes
invariant-loop-axes l = AllSink l.fn.texts.items l.fn.axes l.axes l.from l.at l.texts.items

abbrev pub decreases-loop-axes : goal.decreases-loop-axes
decreases-loop-axes l = length l.fn.axes - l.at
