use Rattle.crs_group.proofs.KnownLemmas.{joined-put, opened-known}
use Rattle.crs_group.proofs.catalogue.Catalogue.put.Goals as goal

pub returns-in-Some-clause-groups : goal.returns-in-Some-clause-groups
returns-in-Some-clause-groups c =
    rw (← c.self.view_is)
    (joined-put c.args.canon c.args.line c.in-Some.at c.self.inside.groups c.join.new.self.groups c.join.result
    (rw c.of-canon.ensures at c.in-Some.ensures.found) c.join.ensures.groups)

pub invariant_of-self-in_err-open-in-None : goal.invariant_of-self-in_err-open-in-None
invariant_of-self-in_err-open-in-None c = rw c.in_err-open-in-None.ensures.unchanged c.self.invariant

pub invariant_of-self-in-None : goal.invariant_of-self-in-None
invariant_of-self-in-None c =
    opened-known c.self.inside.level c.without_spare_room.result c.args.line c.self.inside.groups c.«open».new.self c.self.inside.recent
    c.in_ok-open-in-None.ensures.groups c.self.invariant
