use Rattle.std.proofs.Common.{rules}
use Rattle.crs_same.specs.Parts.{parts_of_compound}
use Rattle.crs_same.proofs.WalkedLemmas.{via}
use Rattle.crs_same.proofs.found.Found.compound.Goals as goal

pub returns : goal.returns
unfolding parts_of_compound
returns c =
    via c.text-found.result (rw (← c.a.view_is, ← c.b.view_is) c.text-found.ensures) (
    via c.horizontal-found.result (rw (← c.then.ensures.path, ← c.then.ensures.level) (search rules)) (
    via c.vertical-found.result (rw (← c.then-2.ensures.path, ← c.then-2.ensures.level) (search rules)) (
    search rules)))
