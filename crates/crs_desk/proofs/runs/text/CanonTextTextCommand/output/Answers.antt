use Rattle.std.proofs.Common.{inl, inr, refl}
use Rattle.crs_desk.specs.Output.{IsCanonOutput}
use Rattle.crs_desk.proofs.runs.text.CanonTextTextCommand.output.Goals as goal

pub returns-in_ok-line_of-in-Ok : goal.returns-in_ok-line_of-in-Ok
unfolding IsCanonOutput
returns-in_ok-line_of-in-Ok c =
    inl (
      c.in-Ok.canon.bytes,
      c.in-Ok.ensures.answer,
      record { line = rw c.into_bytes.ensures at c.in_ok-line_of-in-Ok.ensures; is_status = refl },
    )

pub returns-in_ok-refused_line-in-Err : goal.returns-in_ok-refused_line-in-Err
unfolding IsCanonOutput
returns-in_ok-refused_line-in-Err c =
    let refused = c.in_ok-refusal_in-in-Err.ensures.refuses c.args.text.now c.in-Err.ensures.answer in
    inr (c.in_ok-refusal_in-in-Err.field-0, refused, record { line = c.in_ok-refused_line-in-Err.ensures; is_status = refl })
