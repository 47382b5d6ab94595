use Rattle.crs_same.proofs.DefinitionLemmas.{same-by-definition}
use Rattle.crs_same.proofs.laws.same_crs_is_same_by_definition.Goals as goal

pub returns : goal.returns
returns c = same-by-definition
