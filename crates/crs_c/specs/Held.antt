-- Rules as a caller of C holds them.
use Rattle.std.specs.Prelude.{ℕ, List, []}
use Rattle.crs_rules.specs.RulesFile.{start}
use Rattle.crs_rules.specs.Statements.{Reading}

-- what was read of rules files, and the form of the last text under the rules
pub record HeldParts : Type 0 where
  pub reading : Reading
  pub form : List ℕ

-- no rules, and no form
abbrev pub nothing_held : HeldParts
nothing_held = record { reading = start; form = [] }
