use Rattle.crs_value.proofs.checked.CheckLemmas.{position-test}
use Rattle.crs_value.proofs.checks.axes.is_position.Goals as goal

pub returns-in-Some : goal.returns-in-Some
returns-in-Some c =
    position-test c.same_number_is_equivalence.ensures.symmetric c.same_number_is_equivalence.ensures.transitive c.args.value.now c.in-Some.whole c.args.n c.is_within.result c.in-Some.ensures
    c.is_within.ensures
