use Rattle.crs_same.specs.Parts.{parts_of_method}
use Rattle.crs_same.proofs.WalkedLemmas.{via}
use Rattle.crs_same.proofs.found.Found.method.Goals as goal

pub returns : goal.returns
unfolding parts_of_method
returns c =
    rw (← c.a.view_is, ← c.b.view_is) (
    via c.text-found.result c.text-found.ensures (
    c.identifiers.ensures))
