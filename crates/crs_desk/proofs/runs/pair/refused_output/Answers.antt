use Rattle.crs_desk.proofs.runs.pair.refused_output.Goals as goal

pub refusal-requires : goal.refusal-requires
refusal-requires g c = c.in_ok-refusal.ensures.refuses c.args.text.now c.requires

pub returns : goal.returns
returns g c = c.in_ok-refusal-2.ensures
