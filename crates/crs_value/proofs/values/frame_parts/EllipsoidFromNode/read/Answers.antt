use Rattle.std.proofs.Common.{rules}
use Rattle.crs_value.proofs.sound.FrameLemmas.{ellipsoid-tells}
use Rattle.crs_value.proofs.values.frame_parts.EllipsoidFromNode.read.Goals as goal

pub invariant_of-result : goal.invariant_of-result
invariant_of-result c = ellipsoid-tells _ c.requires.suits _ _ c.requires.sound (search rules)
