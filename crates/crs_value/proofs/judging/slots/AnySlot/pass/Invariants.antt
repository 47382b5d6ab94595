use Rattle.crs_text.specs.inner.Prelude.{count}
use Rattle.crs_shape.specs.inner.Prelude.{any_of}
use Rattle.crs_value.specs.inner.Judged.{Leaves}
use Rattle.crs_value.specs.inner.Arguments.{ahead, Holds}
use Rattle.crs_value.proofs.walk.JudgedLemmas.{Reaches}
use Rattle.crs_value.proofs.judging.slots.AnySlot.pass.Given as goal

abbrev pub invariant-loop-next : goal.invariant-loop-next
invariant-loop-next g l = record {
  holds : Holds l.parent.items.now l.next;
  leaves : Leaves l.parent.items.now l.parent.class (any_of g.P.Part.classes) l.fn.at l.next;
  reaches : Reaches l.parent.items.now l.parent.class l.parent.close (any_of g.P.Part.classes) l.fn.at l.fn.found l.next l.found;
}

abbrev pub decreases-loop-next : goal.decreases-loop-next
decreases-loop-next g l = count (ahead l.parent.items.now l.next)
