use Rattle.std.proofs.Common.{◌-◌, length}
use Rattle.crs_text.proofs.tokens.RunLemmas.{IsRunTo}
use Rattle.crs_text.proofs.runs.ByteKind.length.Given as goal

abbrev pub invariant-loop-at : goal.invariant-loop-at
invariant-loop-at g l = IsRunTo g.Self.ByteKind.of_kind l.left l.at

abbrev pub decreases-loop-at : goal.decreases-loop-at
decreases-loop-at g l = length l.left - l.at
