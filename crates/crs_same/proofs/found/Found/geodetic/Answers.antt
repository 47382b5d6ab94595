use Rattle.std.proofs.Common.{rules}
use Rattle.crs_same.specs.Parts.{parts_of_geodetic}
use Rattle.crs_same.proofs.WalkedLemmas.{via}
use Rattle.crs_same.proofs.found.Found.geodetic.Goals as goal

pub returns : goal.returns
unfolding parts_of_geodetic
returns c =
    via c.kind-found.result (rw (← c.a.view_is, ← c.b.view_is, ← c.a-inside.view_is, ← c.b-inside.view_is) c.kind-found.ensures) (
    via c.text-found.result (rw (← c.a.view_is, ← c.b.view_is, ← c.a-inside.view_is, ← c.b-inside.view_is) c.text-found.ensures) (
    via c.dynamic-found.result (rw (← c.then.ensures.path, ← c.then.ensures.level) (search rules)) (
    via c.frame-found.result (rw (← c.then-2.ensures.path, ← c.then-2.ensures.level) (search rules)) (
    via c.meridian-found.result (rw (← c.then-3.ensures.path, ← c.then-3.ensures.level) (search rules)) (
    via c.system-found.result (rw (← c.then-4.ensures.path, ← c.then-4.ensures.level) (search rules)) (
    search rules))))))
