use Rattle.crs_rules.proofs.PartLemmas.{ensemble-sound, sound-meaning}
use Rattle.crs_rules.proofs.rewriting.frames.ensemble.Goals as goal

pub invariant_of-value : goal.invariant_of-value
invariant_of-value c =
    simp (c.first_name-value-inside.ensures.name, c.rewrite_each.ensures, c.rewrite_part.ensures, ← c.rules.view_is)
    (ensemble-sound _ c.args.class (sound-meaning _ c.rules.invariant) _ c.value.invariant)
