use Rattle.std.proofs.Common.{◌≡◌, length}
use Rattle.bstr.specs.Utf8.{lossy_chars}
use Rattle.crs_explain.specs.CodePoints.{first_unlike}
use Rattle.crs_explain.proofs.code_points.append_code_points.Given as goal

abbrev pub invariant-loop-x : goal.invariant-loop-x
invariant-loop-x l =
    (l.out ≡ l.fn.out)
    × (first_unlike l.left l.others ≡ first_unlike (lossy_chars l.fn.first) (lossy_chars l.fn.second))

abbrev pub decreases-loop-x : goal.decreases-loop-x
decreases-loop-x l = length l.left
