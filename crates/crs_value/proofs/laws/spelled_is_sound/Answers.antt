use Rattle.crs_value.proofs.sound.CompoundLemmas.{spelled-sound}
use Rattle.crs_value.proofs.laws.spelled_is_sound.Goals as goal

pub returns : goal.returns
returns c = spelled-sound c.slots_count.ensures.least c.slots_count.ensures.most c.no_fault_is_shape.ensures
