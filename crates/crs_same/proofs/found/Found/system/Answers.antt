use Rattle.crs_same.specs.Parts.{parts_of_system}
use Rattle.crs_same.proofs.WalkedLemmas.{via}
use Rattle.crs_same.proofs.found.Found.system.Goals as goal

pub returns : goal.returns
unfolding parts_of_system
returns c =
    via c.system_type-found.result (rw (← c.a.view_is, ← c.b.view_is) c.system_type-found.ensures) (
    via c.number-found.result (rw (← c.a.view_is, ← c.b.view_is) c.number-found.ensures) (
    via c.identifiers-found.result (rw (← c.a.view_is, ← c.b.view_is) c.identifiers-found.ensures) (
    c.axes.ensures)))
