use Rattle.std.proofs.Common.{rules}
use Rattle.crs_value.proofs.sound.AxisLemmas.{axis-meridian-tells}
use Rattle.crs_value.proofs.values.system.AxisMeridianFromNode.read.Goals as goal

pub invariant_of-result : goal.invariant_of-result
invariant_of-result c = axis-meridian-tells _ _ _ c.requires.sound (search rules)
