-- The lines of a rules file, and how many of them are statements.
use Rattle.std.proofs.Common.{◌≡◌, arith, ◌+◌, ◌∷◌, [], ℕ, List, refl, ap, subst, if◌then◌else◌}
use Rattle.crs_streams.specs.inner.Prelude.{AreLines}
use Rattle.crs_rules.specs.RulesFile.{is_idle}
use Rattle.crs_desk.specs.RulesCheck.{HasStatements, statements_in}

-- so many statements were counted before what is left
abbrev pub Counts : List ℕ → List ℕ → ℕ → Type 0
Counts bytes left count = (m : ℕ) → HasStatements left m → HasStatements bytes (count + m)

-- a line with others after it
abbrev pub IsFirst : List ℕ → List ℕ → List ℕ → Type 0
IsFirst left line rest = (lines : List (List ℕ)) → AreLines rest lines → AreLines left (line ∷ lines)

pub counts-none : (bytes : List ℕ) → Counts bytes bytes 0
counts-none bytes = λ m h. let same : m ≡ 0 + m = omega arith in subst (HasStatements bytes) same h

pub counts-on : (bytes left line rest : List ℕ) (count next : ℕ) → Counts bytes left count → IsFirst left line rest
    → next ≡ count + (if is_idle line then 0 else 1) → Counts bytes rest next
counts-on bytes left line rest count next counts first e m (lines, are, n) =
    let one : ℕ = if is_idle line then 0 else 1 in
    let all = counts (one + m) (line ∷ lines, first lines are, ap (λ k. one + k) n) in
    let sum : count + (one + m) ≡ next + m = omega (arith, e) in
    subst (HasStatements bytes) sum all

pub counts-all : (bytes left : List ℕ) (count : ℕ) → Counts bytes left count → left ≡ [] → HasStatements bytes count
counts-all bytes left count counts none =
    let sum : count + 0 ≡ count = omega arith in
    subst (HasStatements bytes) sum (counts 0 ([], none, refl))
