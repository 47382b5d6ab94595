use Rattle.crs_rules.proofs.CrsLemmas.{crs-sound}
use Rattle.crs_rules.proofs.laws.rewritten_crs_is_sound.Goals as goal

pub returns : goal.returns
returns c = λ text r x h k. crs-sound text r h x k
