use Rattle.std.proofs.Common.{rules}
use Rattle.crs_value.proofs.sound.CrsLemmas.{extent-tells}
use Rattle.crs_value.proofs.values.usage.ExtentFromNode.read.Goals as goal

pub invariant_of-result : goal.invariant_of-result
invariant_of-result c = extent-tells _ _ _ c.requires.sound (search rules)
