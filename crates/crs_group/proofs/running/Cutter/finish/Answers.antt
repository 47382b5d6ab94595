use Rattle.std.proofs.Common.{◌≡◌, ◌∙◌, ap, length, rules, sym, vec_len, ◌==◌}
use Rattle.crs_group.proofs.GroupCutLemmas.{ended-ledger, last-ledger}
use Rattle.crs_group.proofs.running.Cutter.finish.Goals as goal

pub returns-then-is_empty-clause-lines : goal.returns-then-is_empty-clause-lines
returns-then-is_empty-clause-lines g c =
    let long : length c.self.inside.partial.items ≡ vec_len c.self.inside.partial = search rules in
    ended-ledger c.lines_are_cut.ensures (g.A.Adding.Form c.args.way.now.adding) (g.A.Adding.Share c.args.way.now.adding) c.args.way.now.named c.args.self c.self.inside.ledger c.self.inside.partial.items c.self.view_is
    (c.if-is_empty.ensures ∙ ap (λ n. n == 0) (sym long))

pub returns-clause-lines : goal.returns-clause-lines
returns-clause-lines g c =
    let long : length c.self.inside.partial.items ≡ vec_len c.self.inside.partial = search rules in
    last-ledger c.lines_are_cut.ensures (g.A.Adding.Form c.args.way.now.adding) (g.A.Adding.Share c.args.way.now.adding) c.args.way.now.named c.args.self c.self.inside.ledger c.add.new.self c.self.inside.partial.items c.deref.result.now
    c.self.view_is (c.if-is_empty.ensures ∙ ap (λ n. n == 0) (sym long)) c.deref.ensures.value
    c.in_ok-add.ensures.texts
