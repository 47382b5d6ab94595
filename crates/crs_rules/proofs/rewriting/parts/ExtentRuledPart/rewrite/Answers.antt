use Rattle.crs_rules.proofs.PartLemmas.{extent-sound, sound-meaning}
use Rattle.crs_rules.proofs.rewriting.parts.ExtentRuledPart.rewrite.Goals as goal

pub invariant_of-self : goal.invariant_of-self
invariant_of-self c =
    simp c.rewrite_part.ensures
    (extent-sound _ (sound-meaning c.args.rules.now c.rules_are_sound.ensures) _ c.self.invariant)
