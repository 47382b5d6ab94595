use Rattle.crs_rules.proofs.CrsLemmas.{vertical-sound}
use Rattle.crs_rules.proofs.PartLemmas.{sound-meaning}
use Rattle.crs_rules.proofs.rewriting.crs.vertical.Goals as goal

pub invariant_of-value : goal.invariant_of-value
invariant_of-value c =
    simp (c.counted_name-value-inside.ensures.name, c.dynamics.ensures, c.rewrite_frame.ensures, c.system.ensures, c.geoid_models.ensures, c.tail.ensures, ← c.rules.view_is)
    (vertical-sound _ (sound-meaning _ c.rules.invariant) _ c.value.invariant)
