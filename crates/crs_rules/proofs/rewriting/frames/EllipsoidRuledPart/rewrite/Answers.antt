use Rattle.crs_rules.proofs.PartLemmas.{ellipsoid-sound, sound-meaning}
use Rattle.crs_rules.proofs.rewriting.frames.EllipsoidRuledPart.rewrite.Goals as goal

pub invariant_of-self : goal.invariant_of-self
invariant_of-self c =
    simp (c.first_name-self-inside.ensures.name, c.rewrite_part.ensures, ← c.rules.view_is)
    (ellipsoid-sound _ (sound-meaning _ c.rules.invariant) _ c.self.invariant)
