use Rattle.std.proofs.Common.{rules}
use Rattle.crs_value.specs.ReadsCrs.{ReadsCompound}
use Rattle.crs_value.proofs.sound.PartLemmas.{tells-as}
use Rattle.crs_value.proofs.sound.CompoundLemmas.{compound-tells}
use Rattle.crs_value.proofs.values.compound.CompoundFromNode.read.Goals as goal

pub invariant_of-result : goal.invariant_of-result
invariant_of-result c = tells-as ReadsCompound _ _ _ c.requires.suits (compound-tells c.slots_count.ensures.least c.slots_count.ensures.most) _ _ c.requires.sound (search rules)
