use Rattle.std.proofs.Common.{length}
use Rattle.crs_value.specs.inner.Arguments.{from_found}
use Rattle.crs_value.proofs.checked.CheckLemmas.{Checked}
use Rattle.crs_value.proofs.checks.any_from.Given as goal

abbrev pub invariant-loop-at : goal.invariant-loop-at
invariant-loop-at g l =
    Checked (g.C.Check.Broken l.check l.items) l.items l.parent l.class (from_found l.items l.parent l.class l.fn.from) l.least l.at

abbrev pub decreases-loop-at : goal.decreases-loop-at
decreases-loop-at g l = length (from_found l.items l.parent l.class l.at)
