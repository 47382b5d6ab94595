use Rattle.std.proofs.Common.{inl, inr, refl}
use Rattle.crs_desk.specs.DigestOutput.{IsDigestOutput}
use Rattle.crs_desk.proofs.runs.digest.DigestTextTextCommand.output.Goals as goal

pub returns-in_ok-digest_line-in-Ok : goal.returns-in_ok-digest_line-in-Ok
unfolding IsDigestOutput
returns-in_ok-digest_line-in-Ok c =
    inl (
      c.in-Ok.canon.bytes,
      c.in-Ok.ensures,
      record { line = rw c.bytes.ensures at c.in_ok-digest_line-in-Ok.ensures; is_status = refl },
    )

pub returns-in_ok-refused_line-in-Err : goal.returns-in_ok-refused_line-in-Err
unfolding IsDigestOutput
returns-in_ok-refused_line-in-Err c =
    let refused = c.in_ok-refusal_in-in-Err.ensures.refuses c.args.text.now c.in-Err.ensures in
    inr (c.in_ok-refusal_in-in-Err.field-0, refused, record { line = c.in_ok-refused_line-in-Err.ensures; is_status = refl })
