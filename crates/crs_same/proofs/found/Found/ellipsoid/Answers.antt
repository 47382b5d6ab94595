use Rattle.crs_same.proofs.WalkedLemmas.{via}
use Rattle.crs_same.proofs.found.Found.ellipsoid.Goals as goal

pub returns : goal.returns
returns c =
    rw (← c.a.view_is, ← c.b.view_is) (
    via c.text-found.result c.text-found.ensures (
    via c.number-found.result c.number-found.ensures (
    via c.number-found-2.result c.number-found-2.ensures (
    via c.length-found.result c.length-found.ensures (
    c.identifiers.ensures)))))
