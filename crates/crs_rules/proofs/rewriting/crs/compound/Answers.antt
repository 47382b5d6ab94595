use Rattle.crs_rules.proofs.CrsLemmas.{compound-sound}
use Rattle.crs_rules.proofs.PartLemmas.{sound-meaning}
use Rattle.crs_rules.proofs.rewriting.crs.compound.Goals as goal

pub invariant_of-value : goal.invariant_of-value
invariant_of-value c =
    simp (c.counted_name-value-inside.ensures.name, c.across.ensures, c.vertical.ensures, c.tail.ensures, ← c.rules.view_is)
    (compound-sound _ (sound-meaning _ c.rules.invariant) _ c.value.invariant)
