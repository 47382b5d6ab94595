use Rattle.crs_rules.proofs.CrsLemmas.{base-sound}
use Rattle.crs_rules.proofs.PartLemmas.{sound-meaning}
use Rattle.crs_rules.proofs.rewriting.crs.base.Goals as goal

pub invariant_of-value : goal.invariant_of-value
invariant_of-value c =
    simp (c.counted_name-value-inside.ensures.name, c.dynamics.ensures, c.rewrite_frame.ensures, c.rewrite_part.ensures, c.base_unit.ensures, ← c.rules.view_is)
    (base-sound _ c.args.idle (sound-meaning _ c.rules.invariant) _ c.value.invariant)
