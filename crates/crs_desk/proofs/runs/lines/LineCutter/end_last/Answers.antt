use Rattle.std.proofs.Common.{◌≡◌, ◌∙◌, ap, length, rules, sym, vec_len, ◌==◌}
use Rattle.std.proofs.lemmas.Result.{IfOk-weaker}
use Rattle.crs_desk.proofs.LineCutLemmas.{last-put}
use Rattle.crs_desk.proofs.runs.lines.LineCutter.end_last.Goals as goal

pub returns-clause-put : goal.returns-clause-put
returns-clause-put g c =
    let long : length c.self.inside.partial.items ≡ vec_len c.self.inside.partial = search rules in
    IfOk-weaker c.put.result _ _
    (λ _ put before after bytes. last-put c.lines_are_cut.ensures c.put.new.self c.self.view_is (c.if-is_empty.ensures ∙ ap (λ n. n == 0) (sym long))
    c.deref.ensures.value put) c.put.ensures.put
