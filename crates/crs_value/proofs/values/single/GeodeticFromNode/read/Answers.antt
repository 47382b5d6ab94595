use Rattle.std.proofs.Common.{rules}
use Rattle.crs_value.proofs.sound.CrsLemmas.{geodetic-tells}
use Rattle.crs_value.proofs.values.single.GeodeticFromNode.read.Goals as goal

pub invariant_of-result : goal.invariant_of-result
invariant_of-result c = geodetic-tells c.slots_count.ensures.least c.slots_count.ensures.most _ c.requires.suits _ _ c.requires.sound (search rules)
