use Rattle.std.proofs.lemmas.Result.{IfOk-weaker}
use Rattle.crs_value.proofs.found.ArgumentLemmas.{going-first, going-end}
use Rattle.crs_value.proofs.reading.cursor.Cursor.many_from.Goals as goal

pub loop-at-init : goal.loop-at-init
loop-at-init g c = going-first (g.T.FromNode.Reads c.args.class) _ _ _ _ c.new-members.result.items c.args.found c.requires.sound c.new-members.ensures.items c.requires.found

pub returns : goal.returns
returns g c =
    let all = going-end (g.T.FromNode.Reads c.args.class) _ _ _ _ c.loop-at.members.items (rw c.in_default.is at c.loop-at.invariant) in
    IfOk-weaker c.of.result _ _ (λ list same. rw same all) c.of.ensures
