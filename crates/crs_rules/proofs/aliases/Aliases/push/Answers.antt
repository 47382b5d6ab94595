use Rattle.crs_rules.proofs.FirstsLemmas.{found-more, found-noted}
use Rattle.crs_rules.proofs.aliases.Aliases.push.Goals as goal

pub invariant_of-self-in_err-push : goal.invariant_of-self-in_err-push
invariant_of-self-in_err-push g c =
    rw c.in_err-push.ensures.items (found-more g.A.Alias.digest _ _ c.in_ok-note.ensures.noted.1 0 _ c.self.invariant)

pub invariant_of-self-2 : goal.invariant_of-self-2
invariant_of-self-2 g c =
    rw c.in_ok-push.ensures.items
    (found-noted g.A.Alias.digest _ _ _ _ c.self.invariant
    (simp (c.digest-digest.ensures, c.len-at.ensures, ← c.self.view_is) at c.in_ok-note.ensures.noted))
