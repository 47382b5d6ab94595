use Rattle.crs_rules.proofs.PartLemmas.{conversion-sound, sound-meaning}
use Rattle.crs_rules.proofs.rewriting.parts.conversion.Goals as goal

pub invariant_of-value : goal.invariant_of-value
invariant_of-value c =
    simp (c.counted_name-value-inside.ensures.name, c.method.ensures, c.rewrite_each.ensures, ← c.rules.view_is)
    (conversion-sound _ (sound-meaning _ c.rules.invariant) _ c.value.invariant)
