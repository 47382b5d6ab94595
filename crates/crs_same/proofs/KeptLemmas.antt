-- What a level keeps of the usages at a CRS's end.
use Rattle.std.proofs.Common.{◌≡◌, List, Option, refl}
use Rattle.crs_value.specs.inner.Prelude.{kept, kept_one, kept-joined, UsageParts}
use Rattle.crs_value.specs.declared.values.level.Level.{Level}
use Rattle.crs_same.specs.inner.Prelude.{with_bare}

pub kept-with_bare : (level : Level) (bare : Option UsageParts) (usages : List UsageParts) →
    with_bare (kept_one level bare) (kept level usages) ≡ kept level (with_bare bare usages)
kept-with_bare level bare usages = kept-joined with_bare refl level bare usages

pub ruleset kept_rules = (kept-with_bare)
