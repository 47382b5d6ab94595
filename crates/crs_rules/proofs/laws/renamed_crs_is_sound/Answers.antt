use Rattle.crs_rules.proofs.CrsLemmas.{renamed-sound}
use Rattle.crs_rules.proofs.PartLemmas.{sound-meaning}
use Rattle.crs_rules.specs.Rules.{meaning}
use Rattle.crs_rules.proofs.laws.renamed_crs_is_sound.Goals as goal

pub returns : goal.returns
returns c = λ r x h k. renamed-sound (meaning r) (sound-meaning r h) x k
