use Rattle.crs_explain.proofs.ToldLemmas.{told-set}
use Rattle.crs_explain.proofs.laws.parameters_that_differ_are_told.Goals as goal

pub returns : goal.returns
returns c level path xs ys =
    told-set c.names_tell_parameters.ensures level (c.conversions_are_canonical.ensures.parameter level).form (c.same_parameter_is_equivalence.ensures level).symmetric path xs ys
