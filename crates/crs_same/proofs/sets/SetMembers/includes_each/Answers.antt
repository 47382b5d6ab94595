use Rattle.std.proofs.Common.{rules, IsTrue}
use Rattle.crs_same.proofs.SetLemmas.{all_at, all_more}
use Rattle.crs_same.proofs.sets.SetMembers.includes_each.Goals as goal

pub loop-member-preserved : goal.loop-member-preserved
loop-member-preserved g c =
    record {
      at = search rules;
      before = all_more (g.T.SetMember.Same c.args.level) c.args.members.now c.args.self.now c.loop-member.member-index
          c.member-item.result c.member-item.is c.loop-member-test.true c.loop-member.invariant.before (search rules);
    }

pub returns-then-not-includes : goal.returns-then-not-includes
returns-then-not-includes g c = (
  λ bad. search rules,
  λ all.
      let has = all_at (g.T.SetMember.Same c.args.level) c.args.members.now c.args.self.now c.loop-member.member-index
      c.member-item.result c.member-item.is c.loop-member-test.true all in
      let met : IsTrue c.includes.result = search (rules, has) in
      search rules,
)
