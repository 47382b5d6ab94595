use Rattle.std.proofs.Common.{rules}
use Rattle.crs_same.specs.Parts.{parts_of_conversion}
use Rattle.crs_same.proofs.WalkedLemmas.{done, via}
use Rattle.crs_same.proofs.found.Found.conversion.Goals as goal

pub returns : goal.returns
unfolding parts_of_conversion
returns c =
    rw (← c.a.view_is, ← c.b.view_is) (
    via c.text-found.result c.text-found.ensures (
    via c.method-found.result (rw (← c.then.ensures.path, ← c.then.ensures.level) c.method-found.ensures) (
    via c.parameters-found.result c.parameters-found.ensures (
    c.identifiers.ensures))))

pub returns-then-is_done : goal.returns-then-is_done
returns-then-is_done c = done (search rules)
