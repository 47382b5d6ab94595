use Rattle.std.proofs.Common.{◌∙◌, ◌++◌, ◌∷◌, ap, inl, inr, refl}
use Rattle.crs_desk.specs.RulesCheck.{IsRulesOutput, ok_told}
use Rattle.crs_desk.proofs.runs.rules.RulesTextTextCommand.output.Goals as goal

pub returns-in_ok-counts_told-in-Ok : goal.returns-in_ok-counts_told-in-Ok
unfolding IsRulesOutput
returns-in_ok-counts_told-in-Ok c =
    let named = c.in-Ok.ensures in
    let told = c.in_ok-counts_told-in-Ok.ensures in
    inl (named.0, named.1, told.0, told.1, told.2, told.3, told.4 ∙ ap (λ k. ok_told told.0 k ++ 10 ∷ told.2) named.2, refl)

pub returns-in_ok-refused_told-in-Err : goal.returns-in_ok-refused_told-in-Err
unfolding IsRulesOutput
returns-in_ok-refused_told-in-Err c =
    let refused = c.in_ok-refusal_of-in-Err.ensures c.args.text.now c.in-Err.ensures in
    let told = c.in_ok-refused_told-in-Err.ensures in
    inr (c.in_ok-refusal_of-in-Err.field-0, refused, told.0, told.1, refl)
