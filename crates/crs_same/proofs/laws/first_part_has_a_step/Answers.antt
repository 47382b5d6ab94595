use Rattle.crs_same.proofs.FirstPartLemmas.{first-has-a-step}
use Rattle.crs_same.proofs.laws.first_part_has_a_step.Goals as goal

pub returns : goal.returns
returns c = first-has-a-step
