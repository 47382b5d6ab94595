use Rattle.crs_rules.proofs.CrsLemmas.{axis-sound}
use Rattle.crs_rules.proofs.PartLemmas.{sound-meaning}
use Rattle.crs_rules.proofs.rewriting.parts.AxisRuledPart.rewrite.Goals as goal

pub invariant_of-self : goal.invariant_of-self
invariant_of-self c =
    simp (c.counted_name-self-inside.ensures.name, c.first_name-name.ensures.name, c.rewrite_part.ensures, c.counted_number-self-inside.ensures, c.rewrite_part-2.ensures, ← c.rules.view_is)
    (axis-sound _ (sound-meaning _ c.rules.invariant) _ c.self.invariant)
