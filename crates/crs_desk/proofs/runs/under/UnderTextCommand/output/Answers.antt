use Rattle.std.proofs.Common.{◌∙◌, ◌++◌, ◌∷◌, [], ap, inl, inr, refl}
use Rattle.crs_desk.specs.RulesOutput.{IsFormOutput}
use Rattle.crs_desk.proofs.runs.under.UnderTextCommand.output.Goals as goal

pub returns-in_ok-line_of-in-Ok : goal.returns-in_ok-line_of-in-Ok
unfolding IsFormOutput
returns-in_ok-line_of-in-Ok c =
    inl (
      c.in-Ok.form.bytes,
      c.in-Ok.ensures.answer,
      record {
        line = c.in_ok-line_of-in-Ok.ensures ∙ ap (λ bytes. bytes ++ 10 ∷ []) c.into_bytes.ensures;
        is_status = refl;
      },
    )

pub returns-in_ok-refused_line-in-Err : goal.returns-in_ok-refused_line-in-Err
unfolding IsFormOutput
returns-in_ok-refused_line-in-Err c =
    let refused = c.in_ok-refusal_in-in-Err.ensures.refuses c.args.text.now c.in-Err.ensures.answer in
    inr (c.in_ok-refusal_in-in-Err.field-0, refused, record { line = c.in_ok-refused_line-in-Err.ensures; is_status = refl })
