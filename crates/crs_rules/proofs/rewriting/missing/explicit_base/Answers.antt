use Rattle.crs_rules.proofs.CrsLemmas.{base-with}
use Rattle.crs_rules.proofs.PartLemmas.{completed-meridians-sound}
use Rattle.crs_rules.proofs.rewriting.missing.explicit_base.Goals as goal

pub invariant_of-value : goal.invariant_of-value
invariant_of-value c =
    simp c.complete_meridians.ensures
    (base-with _ _ c.value.invariant (completed-meridians-sound _ c.told_base-missing.ensures.sound _ c.value.invariant.meridian))
