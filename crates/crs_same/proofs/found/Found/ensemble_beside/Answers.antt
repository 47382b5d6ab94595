use Rattle.crs_same.specs.Parts.{parts_of_frame}
use Rattle.crs_same.proofs.WalkedLemmas.{via}
use Rattle.crs_same.proofs.found.Found.ensemble_beside.Goals as goal

pub returns : goal.returns
unfolding parts_of_frame
returns c =
    rw (← c.a.view_is, ← c.b.view_is) (
    via c.unlike-found.result (rw (← c.datum_word.ensures) c.unlike-found.ensures) (
    via c.text-found.result c.text-found.ensures (
    via c.ellipsoids-found.result (rw (← c.then.ensures.path, ← c.then.ensures.level) c.ellipsoids-found.ensures) (
    c.identifiers.ensures))))
