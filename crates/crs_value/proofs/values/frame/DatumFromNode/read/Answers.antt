use Rattle.std.proofs.Common.{rules}
use Rattle.crs_value.proofs.sound.FrameLemmas.{datum-tells}
use Rattle.crs_value.proofs.values.frame.DatumFromNode.read.Goals as goal

pub invariant_of-result : goal.invariant_of-result
invariant_of-result c = datum-tells _ _ _ c.requires.sound (search rules)
