use Rattle.std.proofs.Common.{map, refl, rules}
use Rattle.crs_canon.proofs.LackingLemmas.{lacking-appended}
use Rattle.crs_canon.proofs.lacking.append_lacking_members.Goals as goal

pub returns : goal.returns
returns g c =
    let text = g.T.Spell.spelling c.args.level in
    let these = c.args.these.now in
    let others = c.args.others.now in
    lacking-appended (g.T.Canonical.IsSpelling c.args.level) c.texts_are_in_order.ensures.ascend c.texts_are_in_order.ensures.members
    these others _ _ _ _ _ _ c.append_lacking.result (search rules) (search rules)
    (record { texts = map text these; spelled = c.are_spelled.ensures.spelled c.args.level; all_put = c.in_ok-gather_all.ensures these refl })
    (record { texts = map text others; spelled = c.are_spelled-2.ensures.spelled c.args.level; all_put = c.in_ok-gather_all-2.ensures others refl })
    c.append_lacking.ensures
