use Rattle.crs_rules.proofs.PartLemmas.{parameter-sound, sound-meaning}
use Rattle.crs_rules.proofs.rewriting.parts.ParameterRuledPart.rewrite.Goals as goal

pub invariant_of-self : goal.invariant_of-self
invariant_of-self c =
    simp (c.first_name-self-inside.ensures.name, c.rewrite_part.ensures, ← c.rules.view_is)
    (parameter-sound _ (sound-meaning _ c.rules.invariant) _ c.self.invariant)
