-- What `rules` writes for a rules file, and its status.
use Rattle.std.specs.Prelude.{◌≡◌, ◌⊎◌, ◌==◌, ◌+◌, ◌++◌, ◌∷◌, [], ℕ, List, Option, Some, None, codes, decimal, length, if◌then◌else◌}
use Rattle.crs_streams.specs.Lines.{AreLines}
use Rattle.crs_rules.specs.Rules.{RulesParts}
use Rattle.crs_rules.specs.RulesFile.{RefusesFile, SpellsRules, is_idle, meaning_of, start}
use Rattle.crs_rules.specs.declared.file.fault.RulesRefusal.{RulesRefusal}

-- how many of these lines are statements; the others say nothing
abbrev pub statements_in : List (List ℕ) → ℕ
statements_in [] = 0
statements_in (line ∷ lines) = (if is_idle line then 0 else 1) + statements_in lines

-- how many statements are among the lines of some bytes
abbrev pub HasStatements : List ℕ → ℕ → Type 0
HasStatements bytes n = (lines : List (List ℕ)) × AreLines bytes lines × (n ≡ statements_in lines)

-- how many names rules have: those that count as others, units too, and those of parameters that have a kind
abbrev pub names_in : RulesParts → ℕ
names_in rules = length rules.names + (length rules.units + length rules.kinds)

-- a number of things
abbrev pub counted : ℕ → List ℕ → List ℕ
counted n thing = decimal n ++ (thing ++ (if n == 1 then [] else codes "s"))

-- `ok: 2 statements, 1 name`
abbrev pub ok_told : (statements names : ℕ) → List ℕ
ok_told statements names =
    codes "ok: " ++ (counted statements (codes " statement") ++ (codes ", " ++ counted names (codes " name")))

-- `line L: refused N at P: MEANING`
abbrev pub fault_told : RulesRefusal → List ℕ
fault_told f =
    codes "line " ++ (decimal f.line ++ (codes ": refused " ++ (decimal f.number ++ (codes " at " ++ (decimal f.place
    ++ (codes ": " ++ meaning_of f.number))))))

-- what follows the counts: nothing, or, where texts are named in which the rules are to be used, lines of what they don't
-- match there
abbrev pub AreUnmatched : {A : Type 0} → Option A → List ℕ → Type 0
AreUnmatched None more = more ≡ []
AreUnmatched (Some texts) more = Unit {0}

-- what `rules` writes for a file: the counts, with status 0, or its first fault, and lines that explain it, with status 1
unfoldable pub IsRulesOutput : {A : Type 0} → Option A → List ℕ → List ℕ → ℕ → Type 0
IsRulesOutput used bytes written status =
    ((rules : RulesParts) × SpellsRules bytes rules × (n : ℕ) × HasStatements bytes n × (more : List ℕ)
    × AreUnmatched used more × (written ≡ ok_told n (names_in rules) ++ 10 ∷ more) × (status ≡ 0))
    ⊎ ((f : RulesRefusal) × RefusesFile start bytes f × (more : List ℕ)
    × (written ≡ fault_told f ++ 10 ∷ more) × (status ≡ 1))
