use Rattle.std.proofs.Common.{rules}
use Rattle.crs_value.proofs.sound.CrsLemmas.{parameter-tells}
use Rattle.crs_value.proofs.values.conversion.ParameterFromNode.read.Goals as goal

pub invariant_of-result : goal.invariant_of-result
invariant_of-result c = parameter-tells _ _ _ c.requires.sound (search rules)
