use Rattle.std.proofs.Common.{rules}
use Rattle.crs_value.specs.ReadsCrs.{ReadsProjected}
use Rattle.crs_value.proofs.sound.PartLemmas.{tells-as}
use Rattle.crs_value.proofs.sound.CrsLemmas.{projected-tells}
use Rattle.crs_value.proofs.values.single.ProjectedFromNode.read.Goals as goal

pub invariant_of-result : goal.invariant_of-result
invariant_of-result c = tells-as ReadsProjected _ _ _ c.requires.suits (projected-tells c.slots_count.ensures.least c.slots_count.ensures.most) _ _ c.requires.sound (search rules)
