use Rattle.crs_same.specs.Parts.{parts_of_axes}
use Rattle.crs_same.specs.inner.Walked.{Walked}
use Rattle.crs_same.proofs.found.Found.axes.Given as goal

abbrev pub invariant-loop-index : goal.invariant-loop-index
invariant-loop-index l = Walked (parts_of_axes l.at.path l.at.level l.a l.b l.index) l.fn.self l.found
