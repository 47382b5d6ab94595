use Rattle.crs_rules.proofs.CrsLemmas.{along-sound}
use Rattle.crs_rules.proofs.PartLemmas.{sound-meaning}
use Rattle.crs_rules.proofs.rewriting.parts.AxisMeridianRuledPart.rewrite.Goals as goal

pub invariant_of-self : goal.invariant_of-self
invariant_of-self c =
    simp c.rewrite.ensures
    (along-sound _ (sound-meaning c.args.rules.now c.rules_are_sound.ensures) _ c.self.invariant)
