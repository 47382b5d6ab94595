use Rattle.crs_desk.proofs.PieceLemmas.{found-items, found-refusal}
use Rattle.crs_desk.proofs.runs.text.judged.Goals as goal

pub returns-in-Ok : goal.returns-in-Ok
returns-in-Ok c text whole =
    let node = rw c.in-Ok.is at c.finish.ensures.answer in
    found-items c.settled_refusals.ensures.refusal c.one_answer.ensures.apart text c.args.feeder.now c.in-Ok.items c.kind_of.result
    node c.kind_of.ensures whole

pub returns-in_ok-refusal_in-in-Err : goal.returns-in_ok-refusal_in-in-Err
returns-in_ok-refusal_in-in-Err c text whole =
    let fault = rw c.in-Err.is at c.finish.ensures.answer in
    found-refusal c.settled_refusals.ensures.refusal c.settled_refusals.ensures.stays c.one_answer.ensures.refusal text c.args.feeder.now
    c.in-Err.fault c.in_ok-refusal_in-in-Err.field-0 fault c.in_ok-refusal_in-in-Err.ensures.answer whole
