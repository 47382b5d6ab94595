use Rattle.std.proofs.Common.{◌≡◌, map, drop}
use Rattle.crs_shape.specs.Shape.{shown}
use Rattle.crs_shape.specs.inner.Walk.{may_end, left, left_of}
use Rattle.crs_shape.proofs.fitting.Walk.may_end.Given as goal

abbrev pub invariant-loop-at : goal.invariant-loop-at
invariant-loop-at l = may_end (left l.filled (drop l.at (map shown l.row))) ≡ may_end (left_of l.row l.fn.self)
