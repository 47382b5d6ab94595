use Rattle.crs_rules.proofs.CrsLemmas.{projected-sound}
use Rattle.crs_rules.proofs.PartLemmas.{sound-meaning}
use Rattle.crs_rules.proofs.rewriting.crs.projected.Goals as goal

pub invariant_of-value : goal.invariant_of-value
invariant_of-value c =
    simp (c.counted_name-value-inside.ensures.name, c.base.ensures, c.has_idle_base-idle.ensures, c.conversion.ensures, c.system.ensures, c.tail.ensures, ← c.rules.view_is, ← c.value.view_is)
    (projected-sound _ (sound-meaning _ c.rules.invariant) _ c.value.invariant)
