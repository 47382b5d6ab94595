use Rattle.crs_canon.proofs.LawLemmas.{laws}
use Rattle.crs_canon.proofs.spelling.parts.IdentCanonical.laws.Goals as goal

pub returns : goal.returns
returns c = laws c.self.view_is c.self.invariant c.identifiers_are_canonical.ensures
