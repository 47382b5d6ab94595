use Rattle.crs_text.specs.inner.Prelude.{count}
use Rattle.crs_value.specs.inner.Arguments.{ahead}
use Rattle.crs_value.proofs.walk.LayoutLemmas.{Noted}
use Rattle.crs_value.proofs.judging.quick_checks.axes_until.Given as goal

abbrev pub invariant-loop-at : goal.invariant-loop-at
invariant-loop-at l = Noted l.items l.class l.system_type l.fn.from l.axes l.at

abbrev pub decreases-loop-at : goal.decreases-loop-at
decreases-loop-at l = count (ahead l.items l.at)
