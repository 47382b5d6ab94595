use Rattle.crs_group.proofs.UnitedLemmas.{united}
use Rattle.crs_group.proofs.laws.groups_are_united_by_definition.Goals as goal

pub returns : goal.returns
returns c = united c.one_answer.ensures.apart c.same_crs_is_same_by_definition.ensures
