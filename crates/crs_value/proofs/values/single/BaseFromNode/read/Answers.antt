use Rattle.std.proofs.Common.{rules}
use Rattle.crs_value.specs.ReadsCrs.{ReadsBase}
use Rattle.crs_value.proofs.sound.PartLemmas.{tells-as}
use Rattle.crs_value.proofs.sound.CrsLemmas.{base-tells}
use Rattle.crs_value.proofs.values.single.BaseFromNode.read.Goals as goal

pub invariant_of-result : goal.invariant_of-result
invariant_of-result c = tells-as ReadsBase _ _ _ c.requires.suits (base-tells c.slots_count.ensures.least) _ _ c.requires.sound (search rules)
