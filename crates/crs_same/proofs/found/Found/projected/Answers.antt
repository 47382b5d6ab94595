use Rattle.crs_same.specs.Parts.{parts_of_projected}
use Rattle.crs_same.proofs.WalkedLemmas.{via}
use Rattle.crs_same.proofs.found.Found.projected.Goals as goal

pub returns : goal.returns
unfolding parts_of_projected
returns c =
    rw (← c.a.view_is, ← c.b.view_is) (
    via c.text-found.result c.text-found.ensures (
    via c.base-found.result (rw (← c.then.ensures.path, ← c.then.ensures.level) c.base-found.ensures) (
    via c.conversion-found.result (rw (← c.then-2.ensures.path, ← c.then-2.ensures.level) c.conversion-found.ensures) (
    via c.system-found.result (rw (← c.then-3.ensures.path, ← c.then-3.ensures.level) c.system-found.ensures) (
    c.tail.ensures)))))
