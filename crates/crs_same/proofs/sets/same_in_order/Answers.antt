use Rattle.std.proofs.Common.{drop, rules, subst, take}
use Rattle.crs_same.specs.SameIdents.{HasSame}
use Rattle.crs_same.proofs.SetLemmas.{all_more, has_at, turned_more}
use Rattle.crs_same.proofs.sets.same_in_order.Goals as goal

pub loop-member-preserved : goal.loop-member-preserved
loop-member-preserved g c =
    let same = g.T.SetMember.Same c.args.level in
    let met = subst (λ n. HasSame same c.member-item.result (take 1 (drop n c.args.others.now))) c.loop-member.invariant.at
    (c.is_same_at.ensures (search rules)) in
    record {
      at = search rules;
      there = all_more same c.args.members.now c.args.others.now c.loop-member.member-index c.member-item.result
          c.member-item.is c.loop-member-test.true c.loop-member.invariant.there
          (has_at same c.member-item.result c.args.others.now c.loop-member.member-index met);
      back = turned_more same (c.same_is_equivalence.ensures c.args.level) c.args.members.now c.args.others.now
          c.loop-member.member-index c.member-item.result c.member-item.is c.loop-member-test.true met
          c.loop-member.invariant.back;
    }
