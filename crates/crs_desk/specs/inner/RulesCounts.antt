-- A bridge: the number of names of the rules that a file spells, and the fault of a file that spells none.
use Rattle.std.specs.Prelude.{◌≡◌, ℕ, List}
use Rattle.crs_rules.specs.Rules.{RulesParts}
use Rattle.crs_rules.specs.RulesFile.{RefusesFile, SpellsRules, start}
use Rattle.crs_rules.specs.Statements.{IsRefusedBy}
use Rattle.crs_rules.specs.declared.file.fault.RulesFault.{RulesFault}
use Rattle.crs_desk.specs.RulesCheck.{names_in}

-- a file spells rules that have so many names
abbrev pub HasNames : List ℕ → ℕ → Type 0
HasNames bytes n = (rules : RulesParts) × SpellsRules bytes rules × (n ≡ names_in rules)

-- why a file spells none
abbrev pub IsFaultOfFile : List ℕ → RulesFault → Type 0
IsFaultOfFile bytes fault = IsRefusedBy (RefusesFile start bytes) fault
