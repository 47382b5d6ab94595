use Rattle.std.proofs.Common.{refl}
use Rattle.crs_value.proofs.found.ArgumentLemmas.{has-some}
use Rattle.crs_value.proofs.walk.JudgedLemmas.{end-none, end-some}
use Rattle.crs_value.proofs.judging.slots.ends.Goals as goal

pub returns-in_default : goal.returns-in_default
returns-in_default c = end-none _ _ _ _ _ c.in_default.is

pub returns : goal.returns
returns c = end-some _ _ _ _ _ _ _ _ c.in-Some.is (has-some _ _ _ c.in-Some.is c.requires) refl c.stop_at.ensures
