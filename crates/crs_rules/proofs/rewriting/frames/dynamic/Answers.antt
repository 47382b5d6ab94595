use Rattle.crs_rules.proofs.PartLemmas.{dynamic-sound, sound-meaning}
use Rattle.crs_rules.proofs.rewriting.frames.dynamic.Goals as goal

pub invariant_of-value : goal.invariant_of-value
invariant_of-value c =
    simp c.rewrite_part.ensures
    (dynamic-sound _ (sound-meaning c.args.rules.now c.rules_are_sound.ensures) _ c.value.invariant)
