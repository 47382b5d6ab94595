use Rattle.crs_same.proofs.WalkedLemmas.{via}
use Rattle.crs_same.proofs.found.Found.datum.Goals as goal

pub returns : goal.returns
returns c =
    rw (← c.a.view_is, ← c.b.view_is) (
    via c.text-found.result c.text-found.ensures (
    via c.ellipsoids-found.result (rw (← c.then.ensures.path, ← c.then.ensures.level) c.ellipsoids-found.ensures) (
    via c.optional_text-found.result c.optional_text-found.ensures (
    via c.optional_number-found.result c.optional_number-found.ensures (
    c.identifiers.ensures)))))
