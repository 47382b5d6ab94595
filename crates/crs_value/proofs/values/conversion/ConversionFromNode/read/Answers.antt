use Rattle.std.proofs.Common.{rules}
use Rattle.crs_value.proofs.sound.CrsLemmas.{conversion-tells}
use Rattle.crs_value.proofs.values.conversion.ConversionFromNode.read.Goals as goal

pub invariant_of-result : goal.invariant_of-result
invariant_of-result c = conversion-tells _ _ _ c.requires.sound (search rules)
