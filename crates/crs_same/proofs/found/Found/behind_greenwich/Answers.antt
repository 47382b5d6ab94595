use Rattle.std.proofs.Common.{rules}
use Rattle.crs_same.proofs.WalkedLemmas.{via}
use Rattle.crs_same.proofs.found.Found.behind_greenwich.Goals as goal

pub returns : goal.returns
returns c =
    via c.text-found.result (rw (← c.meridian.view_is) c.text-found.ensures) (
    via c.number-found.result (search rules) (
    via c.angle-found.result (rw (← c.unit_of.ensures) (search rules))
    (search rules)))
