use Rattle.std.proofs.Common.{length}
use Rattle.crs_explain.proofs.rules_file.used.Used.tell.Given as goal

abbrev pub decreases-loop-left : goal.decreases-loop-left
decreases-loop-left l = length l.left
