use Rattle.std.proofs.Common.{rules}
use Rattle.crs_same.proofs.SetLemmas.{both_with}
use Rattle.crs_same.proofs.sets.SetMembers.is_same_in_order.Goals as goal

pub returns-in-None-None : goal.returns-in-None-None
returns-in-None-None g c = rw (← c.self.view_is, ← c.others.view_is, c.in-None-None.is-0, c.in-None-None.is-1) c.same_in_order.ensures

pub returns-else-not-is_same : goal.returns-else-not-is_same
returns-else-not-is_same g c = rw (← c.self.view_is, ← c.others.view_is, c.in-Some-Some.is-0, c.in-Some-Some.is-1) (
    λ yes. both_with (g.T.SetMember.Same c.args.level) (c.same_is_equivalence.ensures c.args.level) _ _ _ _
    (c.is_same.ensures.0 (search rules)) (c.same_in_order-in-Some-Some.ensures yes))
