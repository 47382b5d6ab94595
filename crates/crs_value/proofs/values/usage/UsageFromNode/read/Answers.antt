use Rattle.std.proofs.Common.{rules}
use Rattle.crs_value.proofs.sound.CrsLemmas.{node-tells}
use Rattle.crs_value.proofs.values.usage.UsageFromNode.read.Goals as goal

pub invariant_of-result : goal.invariant_of-result
invariant_of-result c = node-tells c.slots_count.ensures.most _ c.requires.suits _ _ c.requires.sound (search rules)
