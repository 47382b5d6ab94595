use Rattle.crs_canon.proofs.LawLemmas.{laws}
use Rattle.crs_canon.proofs.spelling.parts.ParameterCanonical.laws.Goals as goal

pub returns : goal.returns
returns c = laws c.self.view_is c.self.invariant c.conversions_are_canonical.ensures.parameter
