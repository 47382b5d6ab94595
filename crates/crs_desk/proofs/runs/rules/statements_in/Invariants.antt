use Rattle.std.proofs.Common.{length}
use Rattle.crs_desk.proofs.RulesLemmas.{Counts}
use Rattle.crs_desk.proofs.runs.rules.statements_in.Given as goal

abbrev pub invariant-loop-left : goal.invariant-loop-left
invariant-loop-left l = Counts l.bytes l.left l.count

abbrev pub decreases-loop-left : goal.decreases-loop-left
decreases-loop-left l = length l.left
