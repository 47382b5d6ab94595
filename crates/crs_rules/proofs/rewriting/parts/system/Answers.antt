use Rattle.crs_rules.proofs.CrsLemmas.{system-sound}
use Rattle.crs_rules.proofs.PartLemmas.{sound-meaning}
use Rattle.crs_rules.proofs.rewriting.parts.system.Goals as goal

pub invariant_of-value : goal.invariant_of-value
invariant_of-value c =
    simp (c.rewrite_each.ensures, c.rewrite_part.ensures)
    (system-sound _ (sound-meaning c.args.rules.now c.rules_are_sound.ensures) _ c.value.invariant)
