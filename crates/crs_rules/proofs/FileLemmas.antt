-- The lines of a file, as far as they were read.
use Rattle.std.proofs.Common.{◌≡◌, ◌<◌, ◌≤◌, arith, ◌+◌, ◌++◌, ◌∷◌, [], ℕ, List, inl, inr, refl, ap, ◌∙◌}
use Rattle.crs_text.specs.inner.Prelude.{Item, Siblings, End, More, arguments}
use Rattle.crs_shape.specs.declared.unit_kind.UnitKind.{UnitKind}
use Rattle.crs_streams.specs.inner.Prelude.{AreLines}
use Rattle.crs_rules.specs.declared.file.fault.RulesFault.{RulesFault}
use Rattle.crs_rules.specs.declared.file.fault.RulesFault.TheVariants as faults
use Rattle.crs_rules.specs.declared.file.fault.RulesRefusal.{RulesRefusal}
use Rattle.crs_rules.specs.RulesFile.{FaultOfLine, Reads, ReadsFile, RefusesFile, next}
use Rattle.crs_rules.specs.Statements.{AddsSet, Drops, FaultOver, IsRefusedBy, Joins, Over, Reading, Sorts, SortsAll, listed}
use Rattle.crs_rules.proofs.WalkLemmas.{over-keeps}

-- the lines of some bytes lead from one reading to another
abbrev pub ReadsFrom : Reading → List ℕ → Reading → Type 0
ReadsFrom r bytes s = (lines : List (List ℕ)) × AreLines bytes lines × Over Reads r lines s

-- one of them is refused
abbrev pub RefusesFrom : Reading → List ℕ → RulesRefusal → Type 0
RefusesFrom r bytes f = (lines : List (List ℕ)) × AreLines bytes lines × FaultOver Reads FaultOfLine r lines f

-- what is left decides about the file
pub record LeadsFile (first : Reading) (bytes left : List ℕ) (r : Reading) : Type 0 where
  pub reads : (s : Reading) → ReadsFrom r left s → ReadsFile first bytes s
  pub refuses : (f : RulesRefusal) → RefusesFrom r left f → RefusesFile first bytes f

-- a line with others after it
abbrev pub IsFirst : List ℕ → List ℕ → List ℕ → Type 0
IsFirst left line rest = (lines : List (List ℕ)) → AreLines rest lines → AreLines left (line ∷ lines)

pub file-on : {first r s : Reading} {bytes left rest : List ℕ} (line : List ℕ) → LeadsFile first bytes left r
    → IsFirst left line rest → Reads r line s → LeadsFile first bytes rest s
file-on {s = s} line leads next reads = record {
  reads = λ t h. leads.reads t (line ∷ h.0, next h.0 h.1, (s, reads, h.2));
  refuses = λ f h. leads.refuses f (line ∷ h.0, next h.0 h.1, inr (s, reads, h.2));
}

-- the fault of the next line
pub file-fault : {first r : Reading} {bytes left : List ℕ} (line rest : List ℕ) (lines : List (List ℕ)) → AreLines rest lines
    → LeadsFile first bytes left r → IsFirst left line rest → (fault : RulesFault) → IsRefusedBy (FaultOfLine r line) fault
    → IsRefusedBy (RefusesFile first bytes) fault
file-fault line rest lines are leads next (faults.Memory e) h = tt
file-fault line rest lines are leads next (faults.Refused f) h = leads.refuses f (line ∷ lines, next lines are, inl h)

-- ---- each line is the next

set-line : (r s : Reading) (items : Siblings) → AddsSet r items s → s.line ≡ r.line
set-line r s End h = absurd h
set-line r s (More x xs) (first, q, adds, over) =
    over-keeps (Joins first) (λ t. t.line ≡ r.line) (λ o t item e joins. ap (λ p. p.line) joins.1.adds ∙ e) q s (listed xs)
    (ap (λ p. p.line) adds.adds) over

sort-line : (k : UnitKind) (r s : Reading) (item : Item) → Sorts k r item s → s.line ≡ r.line
sort-line k r s item (inl (is, e)) = ap (λ p. p.line) e
sort-line k r s item (inr (is, m, h)) = ap (λ p. p.line) h.adds

kind-line : (r s : Reading) (items : Siblings) → SortsAll r items s → s.line ≡ r.line
kind-line r s End h = absurd h
kind-line r s (More x xs) (k, is, over) =
    over-keeps (Sorts k) (λ t. t.line ≡ r.line) (λ o t item e sorts. sort-line k o t item sorts ∙ e) r s (listed xs) refl over

pub reads-line : (r s : Reading) (line : List ℕ) → Reads r line s → s.line ≡ r.line + 1
reads-line r s line (inl (idle, e)) = ap (λ q. q.line) e
reads-line r s line (inr (busy, item, spells, inl (is, h))) = set-line (next r) s (arguments item) h
reads-line r s line (inr (busy, item, spells, inr (inr (is, h)))) = kind-line (next r) s (arguments item) h
reads-line r s line (inr (busy, item, spells, inr (inl (is, h)))) =
    over-keeps Drops (λ t. t.line ≡ r.line + 1) (λ o t word e drops. ap (λ p. p.line) drops.2 ∙ e) (next r) s (listed (arguments item)) refl h

-- a line more, and fewer bytes
pub few-still : (line next left rest all : ℕ) → line + left ≤ all → rest < left → next ≡ line + 1 → next + rest ≤ all
few-still line next left rest all few less e = omega (arith, few, less, e)
