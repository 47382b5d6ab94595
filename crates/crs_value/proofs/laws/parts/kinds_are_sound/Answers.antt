use Rattle.crs_value.proofs.sound.CompoundLemmas.{compound-tells}
use Rattle.crs_value.proofs.sound.CrsLemmas.{geodetic-tells, projected-tells, vertical-tells}
use Rattle.crs_value.proofs.laws.parts.kinds_are_sound.Goals as goal

pub returns : goal.returns
returns c = record {
  geodetic = geodetic-tells c.slots_count.ensures.least c.slots_count.ensures.most;
  projected = projected-tells c.slots_count.ensures.least c.slots_count.ensures.most;
  vertical = vertical-tells c.slots_count.ensures.least c.slots_count.ensures.most;
  compound = compound-tells c.slots_count.ensures.least c.slots_count.ensures.most;
}
