use Rattle.std.proofs.Common.{rules}
use Rattle.crs_value.proofs.sound.CrsLemmas.{tail-tells}
use Rattle.crs_value.proofs.values.usage.read_tail.Goals as goal

pub invariant_of-result : goal.invariant_of-result
invariant_of-result c = tail-tells c.slots_count.ensures.most _ _ _ c.requires.sound (search rules)
