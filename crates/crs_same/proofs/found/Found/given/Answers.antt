use Rattle.std.proofs.Common.{rules}
use Rattle.crs_same.proofs.WalkedLemmas.{via}
use Rattle.crs_same.proofs.found.Found.given.Goals as goal

pub returns : goal.returns
returns c =
    via c.text-found.result (rw (← c.a.view_is, ← c.b.view_is) c.text-found.ensures) (
    via c.number-found.result (rw (← c.a.view_is, ← c.b.view_is) c.number-found.ensures) (
    via c.angle-found.result (rw (← c.unit_of.ensures, ← c.unit_of-2.ensures) (search rules)) (
    rw (← c.a.view_is, ← c.b.view_is) c.identifiers.ensures)))
