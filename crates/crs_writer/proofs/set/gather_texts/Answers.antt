use Rattle.crs_writer.proofs.GatherLemmas.{gathering-end, gathering-first, gathering-on}
use Rattle.crs_writer.proofs.set.gather_texts.Goals as goal

pub loop-member-init : goal.loop-member-init
loop-member-init g c =
    (c.requires.members, c.requires.order, gathering-first g.M.MembersPart.Say (g.T.Spell.spelling c.args.level) _ _)

pub loop-member-preserved : goal.loop-member-preserved
loop-member-preserved g c = (
  c.in-Some.ensures.0,
  c.in_ok-put_among.ensures.order,
  gathering-on g.M.First.MemberPart.Says g.M.MembersPart.Say (g.T.Spell.spelling c.args.level) _ _ _ _ _ _ _ c.in-Some.ensures.2
      c.in_ok-put_among.ensures.texts c.loop-member.invariant.2,
)

pub returns-clause-texts : goal.returns-clause-texts
returns-clause-texts g c =
    gathering-end g.M.MembersPart.Say (g.T.Spell.spelling c.args.level) _ _ _ _ c.in_default.ensures c.loop-member.invariant.2
