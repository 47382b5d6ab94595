use Rattle.crs_rules.proofs.PartLemmas.{datum-sound, sound-meaning}
use Rattle.crs_rules.proofs.rewriting.frames.datum.Goals as goal

pub invariant_of-value : goal.invariant_of-value
invariant_of-value c =
    simp (c.first_name-value-inside.ensures.name, c.rewrite_part.ensures, c.counted_text-value-inside.ensures, c.counted_number-value-inside.ensures, ← c.rules.view_is)
    (datum-sound _ c.args.class (sound-meaning _ c.rules.invariant) _ c.value.invariant)
