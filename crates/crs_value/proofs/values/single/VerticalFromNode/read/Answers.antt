use Rattle.std.proofs.Common.{rules}
use Rattle.crs_value.specs.ReadsCrs.{ReadsVertical}
use Rattle.crs_value.proofs.sound.PartLemmas.{tells-as}
use Rattle.crs_value.proofs.sound.CrsLemmas.{vertical-tells}
use Rattle.crs_value.proofs.values.single.VerticalFromNode.read.Goals as goal

pub invariant_of-result : goal.invariant_of-result
invariant_of-result c = tells-as ReadsVertical _ _ _ c.requires.suits (vertical-tells c.slots_count.ensures.least c.slots_count.ensures.most) _ _ c.requires.sound (search rules)
