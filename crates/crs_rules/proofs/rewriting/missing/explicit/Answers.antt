use Rattle.crs_rules.specs.Rules.{meaning}
use Rattle.crs_rules.proofs.CrsLemmas.{explicit-base-sound, projected-base}
use Rattle.crs_rules.proofs.rewriting.missing.explicit.Goals as goal

pub invariant_of-value : goal.invariant_of-value
invariant_of-value c =
    simp c.explicit_base.ensures
    (projected-base _ _ c.value.invariant (explicit-base-sound (meaning c.args.rules.now) _ c.value.invariant.base))
