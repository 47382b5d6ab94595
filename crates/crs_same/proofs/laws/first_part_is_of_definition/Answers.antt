use Rattle.crs_same.proofs.FirstPartLemmas.{first-of-definition}
use Rattle.crs_same.proofs.laws.first_part_is_of_definition.Goals as goal

pub returns : goal.returns
returns c = first-of-definition
