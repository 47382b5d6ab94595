use Rattle.crs_rules.proofs.CrsLemmas.{geodetic-with}
use Rattle.crs_rules.proofs.PartLemmas.{completed-meridians-sound}
use Rattle.crs_rules.proofs.rewriting.missing.explicit_geodetic.Goals as goal

pub invariant_of-value : goal.invariant_of-value
invariant_of-value c =
    simp c.complete_meridians.ensures
    (geodetic-with _ _ c.value.invariant (completed-meridians-sound _ c.told_axes-missing.ensures.sound _ c.value.invariant.meridian))

pub returns : goal.returns
returns c = simp (c.complete_meridians.ensures, c.told_axes-missing.ensures.unit, ← c.value.view_is)
