-- Rules files: the rules that they spell, or the first refused line.
use Rattle.std.specs.Prelude.{◌≡◌, ◌⊎◌, ◌==◌, ◌&&◌, ◌||◌, ◌+◌, ℕ, Bool, true, IsTrue, IsFalse, List, [], ◌∷◌, codes, if◌then◌else◌}
use Rattle.crs_text.specs.Items.{Item}
use Rattle.crs_text.specs.Refusal.{is_refusal, name_of}
use Rattle.crs_text.specs.TextFault.{RefusesText, SpellsNode}
use Rattle.crs_text.specs.Tokens.{is_white}
use Rattle.crs_streams.specs.Lines.{AreLines}
use Rattle.crs_rules.specs.Rules.{no_rules, RulesParts}
use Rattle.crs_rules.specs.declared.file.fault.RulesRefusal.{RulesRefusal}
use Rattle.crs_rules.specs.Statements.{FaultOfStatement, FaultOver, Over, Reading, States}

-- whether a line says nothing: it is white space alone, or a comment, which begins with `#`
abbrev pub is_idle : List ℕ → Bool
is_idle [] = true
is_idle (b ∷ bs) = b == 35 || (is_white b && is_idle bs)

-- a reading at its next line
abbrev pub next : Reading → Reading
next r = record r { line = r.line + 1 }

-- a line leads from one reading to another: it says nothing, or is a statement
abbrev pub Reads : Reading → List ℕ → Reading → Type 0
Reads r line s =
    (IsTrue (is_idle line) × (s ≡ next r))
    ⊎ (IsFalse (is_idle line) × (item : Item) × SpellsNode line item × States (next r) item s)

-- the fault of a line: that of its text, with the text's number and place, or of its statement
abbrev pub FaultOfLine : Reading → List ℕ → RulesRefusal → Type 0
FaultOfLine r line f =
    IsFalse (is_idle line) ×
    (((f.line ≡ r.line + 1) × RefusesText line f.number f.place)
    ⊎ ((item : Item) × SpellsNode line item × FaultOfStatement (next r) item f))

-- a file leads from one reading to another; its lines are counted from 1
abbrev pub ReadsFile : Reading → List ℕ → Reading → Type 0
ReadsFile r bytes s = (lines : List (List ℕ)) × AreLines bytes lines × Over Reads (record r { line = 0 }) lines s

-- the fault of a file
abbrev pub RefusesFile : Reading → List ℕ → RulesRefusal → Type 0
RefusesFile r bytes f =
    (lines : List (List ℕ)) × AreLines bytes lines
    × FaultOver Reads FaultOfLine (record r { line = 0 }) lines f

-- what the number of a refused line means, in words; of 1 to 8 the name of a text's refusal
abbrev pub meaning_of : ℕ → List ℕ
meaning_of n =
    if n == 41 then codes "neither SAME, UNCOUNTED nor KIND"
    else (if n == 42 then codes "no node or word that may stand here"
    else (if n == 43 then codes "a node of another kind than the first of its set"
    else (if n == 44 then codes "a node that stood in such a statement before"
    else (if is_refusal n then name_of n else []))))

-- before the first file
abbrev pub start : Reading
start = record { line = 0; seen = []; rules = no_rules }

-- a file by itself spells these rules
abbrev pub SpellsRules : List ℕ → RulesParts → Type 0
SpellsRules bytes rules = (s : Reading) × ReadsFile start bytes s × (rules ≡ s.rules)
