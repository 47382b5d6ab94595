use Rattle.std.proofs.Common.{rules}
use Rattle.crs_same.specs.Parts.{parts_of_tail}
use Rattle.crs_same.proofs.WalkedLemmas.{done, via}
use Rattle.crs_same.proofs.found.Found.tail.Goals as goal

pub returns : goal.returns
unfolding parts_of_tail
returns c =
    via c.usages-found.result c.usages-found.ensures (
    via c.identifiers-found.result (rw (← c.a.view_is, ← c.b.view_is) c.identifiers-found.ensures) (
    rw (← c.a.view_is, ← c.b.view_is, ← c.kept_text-first.ensures, ← c.kept_text-second.ensures) c.optional_text.ensures))

pub returns-then-is_done : goal.returns-then-is_done
returns-then-is_done c = done (search rules)
