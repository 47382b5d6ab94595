-- What a level keeps of the identifiers, the usages and the remark of a part.
use Rattle.std.specs.Prelude.{List, [], Option, None}
use Rattle.crs_value.specs.declared.values.level.Level.{Level}
use Rattle.crs_value.specs.declared.values.level.Level.TheVariants as levels

-- what a level keeps of a list of identifiers or usages: all of them, or by definition none
abbrev pub kept : {A : Type 0} → Level → List A → List A
kept levels.Full members = members
kept levels.Definition members = []

-- what a level keeps of a usage or a remark that may be missing: it, or by definition none
abbrev pub kept_one : {A : Type 0} → Level → Option A → Option A
kept_one levels.Full member = member
kept_one levels.Definition member = None
