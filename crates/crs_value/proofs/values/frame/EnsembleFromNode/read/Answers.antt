use Rattle.std.proofs.Common.{rules}
use Rattle.crs_value.proofs.sound.FrameLemmas.{ensemble-tells}
use Rattle.crs_value.proofs.values.frame.EnsembleFromNode.read.Goals as goal

pub invariant_of-result : goal.invariant_of-result
invariant_of-result c = ensemble-tells c.slots_count.ensures.least _ c.requires.suits.1 _ _ c.requires.sound (search rules)
