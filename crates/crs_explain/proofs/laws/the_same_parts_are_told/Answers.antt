use Rattle.crs_explain.proofs.TellingLemmas.{same-told}
use Rattle.crs_explain.proofs.laws.the_same_parts_are_told.Goals as goal

pub returns : goal.returns
returns c words level a b is-a is-b =
    same-told level (c.parameters_that_differ_are_told.ensures level) a b is-a is-b (c.differences_are_one.ensures level a b is-a is-b) words
