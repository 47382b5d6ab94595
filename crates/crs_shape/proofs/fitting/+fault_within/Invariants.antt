use Rattle.crs_text.specs.inner.Prelude.{first_of, here, size_of, sizes}
use Rattle.crs_shape.specs.inner.Walk.{left_of}
use Rattle.crs_shape.proofs.faults.FitLemmas as fit
use Rattle.crs_shape.proofs.faults.FitLemmas.{from}
use Rattle.crs_shape.proofs.faults.ExpectedLemmas as expected
use Rattle.crs_shape.proofs.fitting.+fault_within.Given as goal

abbrev pub decreases-fault_within : goal.decreases-fault_within
decreases-fault_within l = size_of (first_of (here l.items.now l.id))

abbrev pub invariant-loop-next : goal.invariant-loop-next
invariant-loop-next l =
    fit.Going l.items l.class (first_of (here l.items l.fn.id)) l.close (left_of l.row l.walk) l.next
    × expected.Going l.items l.class (first_of (here l.items l.fn.id)) (left_of l.row l.walk) l.next

abbrev pub decreases-loop-next : goal.decreases-loop-next
decreases-loop-next l = sizes (from l.items l.next)
