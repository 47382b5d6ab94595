use Rattle.std.proofs.Common.{refl, rules}
use Rattle.crs_canon.proofs.LawLemmas.{laws}
use Rattle.crs_canon.proofs.spelling.crs.HorizontalCanonical.laws.Goals as goal

pub returns : goal.returns
returns c = laws refl (search rules) c.horizontals_are_canonical.ensures
