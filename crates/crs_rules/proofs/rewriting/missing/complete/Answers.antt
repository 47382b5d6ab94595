use Rattle.crs_rules.specs.Rules.{meaning}
use Rattle.crs_rules.proofs.PartLemmas.{completed-conversion-sound, kind-sound}
use Rattle.crs_rules.proofs.rewriting.missing.complete.Goals as goal

pub invariant_of-value : goal.invariant_of-value
invariant_of-value c =
    simp c.change_each.ensures
    (completed-conversion-sound (meaning c.args.rules.now) _ (kind-sound _ _ c.is_sound.ensures c.is_sound-2.ensures) _ c.value.invariant)
