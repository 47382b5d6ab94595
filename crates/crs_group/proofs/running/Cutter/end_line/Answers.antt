use Rattle.std.proofs.Common.{◌≡◌, ◌∙◌, ap, length, rules, sym, vec_len, ◌==◌}
use Rattle.std.proofs.lemmas.Result.{IfOk-weaker}
use Rattle.crs_group.proofs.GroupCutLemmas.{cut-joined, cut-over, cut-straight}
use Rattle.crs_group.proofs.running.Cutter.end_line.Goals as goal

pub returns-then-is_over-clause-fault : goal.returns-then-is_over-clause-fault
returns-then-is_over-clause-fault g c =
    cut-over c.lines_are_cut.ensures (g.A.Adding.Form c.args.way.now.adding) (g.A.Adding.Share c.args.way.now.adding) c.args.way.now.named c.args.line.now c.args.self.now c.self.inside.ledger c.self.inside.partial.items c.lines.result
    c.self.view_is c.requires.one (c.is_over.ensures.over c.if-is_over.true) c.lines.ensures

pub returns-then-is_empty-clause-cut : goal.returns-then-is_empty-clause-cut
returns-then-is_empty-clause-cut g c =
    let long : length c.self.inside.partial.items ≡ vec_len c.self.inside.partial = search rules in
    IfOk-weaker c.add_line.result _ _
    (λ _ next. cut-straight c.lines_are_cut.ensures (g.A.Adding.Form c.args.way.now.adding) (g.A.Adding.Share c.args.way.now.adding) c.args.way.now.named c.args.line.now c.args.self.now c.self.inside.ledger c.add_line.new.ledger
    c.self.inside.partial.items c.self.view_is c.requires.one (c.is_over.ensures.fits c.if-is_over.false)
    (c.if-is_empty.ensures ∙ ap (λ n. n == 0) (sym long)) next)
    c.add_line.ensures.added

pub returns-clause-cut : goal.returns-clause-cut
returns-clause-cut g c =
    cut-joined c.lines_are_cut.ensures (g.A.Adding.Form c.args.way.now.adding) (g.A.Adding.Share c.args.way.now.adding) c.args.way.now.named c.args.line.now c.args.self.now c.self.inside.ledger c.add_line-2.new.ledger
    c.self.inside.partial.items c.deref.result.now c.clear.new.self.items c.self.view_is c.requires.one
    (c.is_over.ensures.fits c.if-is_over.false) (c.deref.ensures.value ∙ c.in_ok-append_bytes.ensures.appended) c.clear.ensures.items c.in_ok-add_line.ensures.added
