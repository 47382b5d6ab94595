use Rattle.crs_same.proofs.SearchLemmas.{IsLeft}
use Rattle.crs_same.proofs.axes.axis_at.Given as goal

abbrev pub invariant-loop-axis : goal.invariant-loop-axis
invariant-loop-axis l = IsLeft l.position l.place l.axis-index l.axes
