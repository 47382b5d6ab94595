use Rattle.std.proofs.Common.{inl, inr, refl}
use Rattle.crs_desk.specs.ExplainOutput.{IsExplainOutput}
use Rattle.crs_desk.proofs.runs.explain.ExplainTextTextCommand.output.Goals as goal

pub returns-in_ok-kind_line-in-Ok : goal.returns-in_ok-kind_line-in-Ok
unfolding IsExplainOutput
returns-in_ok-kind_line-in-Ok c =
    inl (c.in-Ok.kind, rw c.in-Ok.is at c.in_ok-kind.ensures, record { line = c.in_ok-kind_line-in-Ok.ensures; is_status = refl })

pub returns-in_ok-refusal-in-Err : goal.returns-in_ok-refusal-in-Err
unfolding IsExplainOutput
returns-in_ok-refusal-in-Err c = inr c.in_ok-refusal-in-Err.ensures
