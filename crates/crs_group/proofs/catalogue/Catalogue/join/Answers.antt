use Rattle.crs_group.proofs.KnownLemmas.{joined-known}
use Rattle.crs_group.proofs.catalogue.Catalogue.join.Goals as goal

pub invariant_of-self : goal.invariant_of-self
invariant_of-self c = rw c.in_err-join.ensures.unchanged c.self.invariant

pub invariant_of-self-2 : goal.invariant_of-self-2
invariant_of-self-2 c =
    joined-known c.self.inside.level c.args.at c.args.line c.self.inside.groups c.join.new.self c.self.inside.recent
    c.in_ok-join.ensures.groups c.self.invariant
