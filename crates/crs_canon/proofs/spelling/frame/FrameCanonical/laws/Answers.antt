use Rattle.std.proofs.Common.{refl, rules}
use Rattle.crs_canon.proofs.LawLemmas.{laws}
use Rattle.crs_canon.proofs.spelling.frame.FrameCanonical.laws.Goals as goal

pub returns : goal.returns
returns c = laws refl (search rules) c.frames_are_canonical.ensures
