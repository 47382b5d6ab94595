use Rattle.std.proofs.Common.{inl, inr}
use Rattle.std.proofs.lemmas.Result.{IfOk-weaker}
use Rattle.crs_desk.specs.SameOutput.{IsPairOutput}
use Rattle.crs_desk.proofs.runs.pair.pair_output.Goals as goal

pub returns-in-Ok : goal.returns-in-Ok
unfolding IsPairOutput
returns-in-Ok g c =
    let spelled = rw c.in-Ok.is at c.read.ensures in
    IfOk-weaker c.second_output.result _ _ (λ output answered. inr (c.in-Ok.crs, spelled, answered)) c.second_output.ensures

pub refused_output-requires : goal.refused_output-requires
refused_output-requires g c = rw c.in-Err.is at c.read.ensures

pub returns-in-Err : goal.returns-in-Err
unfolding IsPairOutput
returns-in-Err g c = IfOk-weaker c.refused_output.result _ _ (λ output refused. inl refused) c.refused_output.ensures
