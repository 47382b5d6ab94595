use Rattle.std.proofs.Common.{rules}
use Rattle.crs_same.specs.Parts.{parts_of_axis}
use Rattle.crs_same.proofs.WalkedLemmas.{done, via}
use Rattle.crs_same.proofs.found.Found.axis.Goals as goal

pub returns : goal.returns
unfolding parts_of_axis
returns c =
    via c.text-found.result (rw (← c.x.view_is, ← c.y.view_is) c.text-found.ensures) (
    via c.direction-found.result (rw (← c.x.view_is, ← c.y.view_is) c.direction-found.ensures) (
    via c.along-found.result (rw (← c.x.view_is, ← c.y.view_is) c.along-found.ensures) (
    via c.unit-found.result (
    rw (← c.unit.ensures.kind, ← c.unit-2.ensures.kind, ← c.unit.ensures.unit, ← c.unit-2.ensures.unit) c.unit-found.ensures) (
    rw (← c.x.view_is, ← c.y.view_is) c.identifiers.ensures))))

pub returns-then-is_done : goal.returns-then-is_done
returns-then-is_done c = done (search rules)
