use Rattle.crs_rules.proofs.OneLemmas.{files-sharp}
use Rattle.crs_rules.proofs.laws.files.one_answer.Goals as goal

pub returns : goal.returns
returns c =
    let sharp = files-sharp c.denotes_one.ensures c.one_answer.ensures.node c.one_answer.ensures.refusal c.one_answer.ensures.apart c.lines_are_one.ensures.one in
    record { read = sharp.one; refused = sharp.fault; apart = sharp.apart }
