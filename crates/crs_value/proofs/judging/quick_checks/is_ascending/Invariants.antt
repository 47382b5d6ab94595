use Rattle.crs_text.specs.inner.Prelude.{count}
use Rattle.crs_value.specs.inner.Arguments.{ahead, Holds}
use Rattle.crs_value.proofs.walk.RestLemmas.{Climbing}
use Rattle.crs_value.proofs.judging.quick_checks.is_ascending.Given as goal

abbrev pub invariant-loop-at : goal.invariant-loop-at
invariant-loop-at l = record {
  holds : Holds l.items l.at;
  climbing : Climbing l.parent (ahead l.items l.fn.from) (ahead l.items l.at) l.last;
}

abbrev pub decreases-loop-at : goal.decreases-loop-at
decreases-loop-at l = count (ahead l.items l.at)
