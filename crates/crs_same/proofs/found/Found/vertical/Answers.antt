use Rattle.crs_same.specs.Parts.{parts_of_vertical}
use Rattle.crs_same.proofs.WalkedLemmas.{via}
use Rattle.crs_same.proofs.found.Found.vertical.Goals as goal

pub returns : goal.returns
unfolding parts_of_vertical
returns c =
    rw (← c.a.view_is, ← c.b.view_is) (
    via c.text-found.result c.text-found.ensures (
    via c.dynamic-found.result (rw (← c.then.ensures.path, ← c.then.ensures.level) c.dynamic-found.ensures) (
    via c.frame-found.result (rw (← c.then-2.ensures.path, ← c.then-2.ensures.level) c.frame-found.ensures) (
    via c.system-found.result (rw (← c.then-3.ensures.path, ← c.then-3.ensures.level) c.system-found.ensures) (
    via c.geoids-found.result c.geoids-found.ensures (
    c.tail.ensures))))))
