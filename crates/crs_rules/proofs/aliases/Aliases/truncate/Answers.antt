use Rattle.crs_rules.proofs.FirstsLemmas.{found-take}
use Rattle.crs_rules.proofs.aliases.Aliases.truncate.Goals as goal

pub invariant_of-self : goal.invariant_of-self
invariant_of-self g c =
    rw c.truncate.ensures.items (found-take g.A.Alias.digest _ c.args.count 0 _ c.self.invariant)
