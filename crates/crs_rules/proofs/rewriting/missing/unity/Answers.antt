use Rattle.crs_rules.proofs.PartLemmas.{unity-sound}
use Rattle.crs_rules.proofs.rewriting.missing.unity.Goals as goal

pub invariant_of-result : goal.invariant_of-result
invariant_of-result c = simp (c.one.ensures, c.new.ensures) unity-sound
