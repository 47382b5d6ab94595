-- A bridge: rules that a caller holds are those of some files.
use Rattle.std.specs.Prelude.{ℕ, List}
use Rattle.crs_rules.specs.RulesFile.{ReadsFile, start}
use Rattle.crs_rules.specs.Statements.{Over, Reading}

-- what is read of some files, one after the other
abbrev pub AreOfFiles : Reading → Type 0
AreOfFiles reading = (files : List (List ℕ)) × Over ReadsFile start files reading
