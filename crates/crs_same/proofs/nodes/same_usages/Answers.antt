use Rattle.crs_same.proofs.nodes.same_usages.Goals as goal

pub returns : goal.returns
returns c = rw (← c.usages_of-these.ensures, ← c.usages_of-others.ensures) c.same_set.ensures
