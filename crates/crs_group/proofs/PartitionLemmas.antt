-- Lists of placed lines that grow.
use Rattle.std.proofs.Common.{◌≡◌, ◌<◌, ◌≤◌, ◌++◌, ◌∷◌, [], ℕ, List, refl, arith}
use Rattle.std.proofs.lemmas.Grind.{flat_map-append}
use Rattle.std.proofs.lemmas.List.{append-nil}
use Rattle.crs_group.specs.declared.placed.Placed.{Placed}
use Rattle.crs_group.specs.GroupTexts.{AreNumbered, Counts, PlacedLine, if_refused, in_group, lines_in, refused_in}

pub numbered-append : (before : ℕ) (placed : List PlacedLine) (next : ℕ) (p : PlacedLine) (behind : ℕ)
    → AreNumbered before placed next → Counts next p.place behind → AreNumbered before (placed ++ p ∷ []) behind
numbered-append before [] next p behind numbered counts =
    (behind, rw numbered at counts, refl)
numbered-append before (q ∷ qs) next p behind numbered counts =
    (numbered.0, numbered.1, numbered-append numbered.0 qs next p behind numbered.2 counts)

pub lines-append : (n : ℕ) (placed : List PlacedLine) (p : PlacedLine)
    → lines_in n (placed ++ p ∷ []) ≡ lines_in n placed ++ in_group n p.line.number p.place
lines-append n placed p = simp (flat_map-append, append-nil)

pub refused-append : (placed : List PlacedLine) (p : PlacedLine)
    → refused_in (placed ++ p ∷ []) ≡ refused_in placed ++ if_refused p.line.number p.place
refused-append placed p = simp (flat_map-append, append-nil)

-- no group is lost, and the group of a line is counted
counts-rise : (before : ℕ) (place : Placed) (behind : ℕ) → Counts before place behind → before ≤ behind
counts-rise before place behind counts = grind arith

numbered-rise : (before : ℕ) (placed : List PlacedLine) (behind : ℕ) → AreNumbered before placed behind
    → before ≤ behind
numbered-rise before [] behind numbered = omega arith
numbered-rise before (p ∷ ps) behind numbered =
    let here : before ≤ numbered.0 = counts-rise before p.place numbered.0 numbered.1 in
    let rest : numbered.0 ≤ behind = numbered-rise numbered.0 ps behind numbered.2 in omega arith

in-none : (n before : ℕ) (line : ℕ) (place : Placed) (behind : ℕ) → Counts before place behind → behind < n
    → in_group n line place ≡ []
in-none n before line place behind counts over = grind arith

-- no line is in a group that isn't counted
pub lines-none : (n before : ℕ) (placed : List PlacedLine) (behind : ℕ) → AreNumbered before placed behind
    → behind < n
    → lines_in n placed ≡ []
lines-none n before [] behind numbered over = refl
lines-none n before (p ∷ ps) behind numbered over =
    let rise : numbered.0 ≤ behind = numbered-rise numbered.0 ps behind numbered.2 in
    let here = in-none n before p.line.number p.place numbered.0 numbered.1 (omega arith) in
    let rest = lines-none n numbered.0 ps behind numbered.2 over in rw (here, rest) refl
