use Rattle.std.proofs.Common.{ap, ◌∙◌}
use Rattle.std.proofs.lemmas.Result.{IfOk-weaker}
use Rattle.crs_rules.specs.Rewritten.{renamed}
use Rattle.crs_rules.specs.Rules.{meaning}
use Rattle.crs_rules.proofs.form.put_in_form_order.Goals as goal

pub put_as_in-requires : goal.put_as_in-requires
put_as_in-requires c =
    let m = meaning c.args.rules.now in
    (m, c.rename.ensures ∙ ap (renamed m) (c.one_answer.ensures.value _ _ _ c.in_ok-other.ensures c.requires.spells))

pub returns : goal.returns
returns c =
    let m = meaning c.args.rules.now in
    let is = c.rename.ensures ∙ ap (renamed m) (c.one_answer.ensures.value _ _ _ c.in_ok-other.ensures c.requires.spells) in
    IfOk-weaker c.put_as_in.result _ _ (λ _ put. put m is) c.put_as_in.ensures
