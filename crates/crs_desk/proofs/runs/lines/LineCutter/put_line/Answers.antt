use Rattle.std.proofs.Common.{◌≡◌, ◌∙◌, ap, length, rules, sym, vec_len, ◌==◌}
use Rattle.std.proofs.lemmas.Result.{IfOk-weaker}
use Rattle.crs_desk.proofs.LineCutLemmas.{puts-straight}
use Rattle.crs_desk.proofs.runs.lines.LineCutter.put_line.Goals as goal

pub returns-then-is_empty-clause-put : goal.returns-then-is_empty-clause-put
returns-then-is_empty-clause-put g c =
    let long : length c.self.inside.partial.items ≡ vec_len c.self.inside.partial = search rules in
    IfOk-weaker c.put.result _ _
    (λ _ put. puts-straight (g.C.TextCommand.Output c.args.command.now) c.args.line.now c.text_of.result.now
    c.self.inside.partial.items c.args.self.now c.self.inside.writer c.put.new.self c.self.inside.lines c.self.view_is
    (c.if-is_empty.ensures ∙ ap (λ n. n == 0) (sym long)) c.text_of.ensures put)
    c.put.ensures.put
