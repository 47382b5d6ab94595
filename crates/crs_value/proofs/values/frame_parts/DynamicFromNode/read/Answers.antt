use Rattle.std.proofs.Common.{rules}
use Rattle.crs_value.proofs.sound.CrsLemmas.{dynamic-tells}
use Rattle.crs_value.proofs.values.frame_parts.DynamicFromNode.read.Goals as goal

pub invariant_of-result : goal.invariant_of-result
invariant_of-result c = dynamic-tells _ _ _ c.requires.sound (search rules)
