use Rattle.std.proofs.Common.{codes}
use Rattle.std.proofs.lemmas.Result.{IfOk-weaker}
use Rattle.crs_desk.proofs.FormsLemmas.{second-written}
use Rattle.crs_desk.proofs.runs.under.both_of.Goals as goal

pub returns-in-Ok : goal.returns-in-Ok
returns-in-Ok g c =
    let Refused = g.T.Telling.Refused c.args.told in
    let Is = g.W.Writing.Is c.args.by in
    IfOk-weaker c.second_of.result _ _
    (λ found. second-written found Is c.in-Ok.written c.args.first.now c.args.second.now
    (λ output. Refused (codes "first ") c.args.first.now output.0.items output.1)
    (λ output. Refused (codes "second ") c.args.second.now output.0.items output.1) c.in-Ok.ensures)
    c.second_of.ensures
