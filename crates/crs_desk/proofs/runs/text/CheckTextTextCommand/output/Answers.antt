use Rattle.std.proofs.lemmas.Result.{IfOk-weaker}
use Rattle.crs_desk.proofs.CheckLemmas.{found-written}
use Rattle.crs_desk.proofs.runs.text.CheckTextTextCommand.output.Goals as goal

pub returns : goal.returns
returns c =
    IfOk-weaker c.found_output.result _ _
    (λ output. found-written c.args.self.now.how c.args.text.now c.in_ok-found.found output.0.items output.1 c.in_ok-found.ensures)
    c.found_output.ensures
