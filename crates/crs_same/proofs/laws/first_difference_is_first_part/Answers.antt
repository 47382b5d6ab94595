use Rattle.std.proofs.Common.{[], ◌∷◌}
use Rattle.crs_same.specs.Parts.{parts_of_crs}
use Rattle.crs_same.proofs.DifferenceLemmas.{first-difference}
use Rattle.crs_same.proofs.laws.first_difference_is_first_part.Goals as goal

pub returns-clause-none : goal.returns-clause-none
returns-clause-none c level a b = first-difference (parts_of_crs level a b) []

pub returns-clause-some : goal.returns-clause-some
returns-clause-some c level a b one further = first-difference (parts_of_crs level a b) (one ∷ further)
