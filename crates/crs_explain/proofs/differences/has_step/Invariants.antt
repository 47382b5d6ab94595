use Rattle.std.proofs.Common.{◌≡◌, false, length, true}
use Rattle.crs_explain.specs.InOrder.{has_step_from}
use Rattle.crs_explain.proofs.differences.has_step.Given as goal

abbrev pub invariant-loop-left : goal.invariant-loop-left
invariant-loop-left l = has_step_from true false l.word l.path ≡ has_step_from l.begins l.is_quoted l.word l.left

abbrev pub decreases-loop-left : goal.decreases-loop-left
decreases-loop-left l = length l.left
