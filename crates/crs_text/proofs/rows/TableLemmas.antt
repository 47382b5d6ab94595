-- The open nodes, read from the array.
use Rattle.std.proofs.Common.{◌≡◌, ℕ, zero, suc, ◌+◌, ◌-◌, ◌≤◌, ◌<◌, Bool, true, List, [], ◌∷◌, length, length-append, get_or, ◌≢◌, refl, ap, arith, get_or-set_same, get_or-set_other}
use Rattle.std.proofs.Math.ListN.{set, length-set}
use Rattle.crs_text.specs.declared.table.Open.{Open}
use Rattle.crs_text.specs.declared.table.Row.{Row}
use Rattle.crs_text.specs.declared.table.Progress.{Progress}
use Rattle.crs_text.specs.declared.table.Progress.TheVariants.{BeforeItem, AfterWord}
use Rattle.crs_text.specs.inner.Table.{IsRoomy, AreRoomy, counted, held, no_open}

pub held-top : (depth : ℕ) (os : List Open) → 0 < depth → held depth os ≡ get_or os (depth - 1) no_open ∷ held (depth - 1) os
held-top zero os h = absurd (omega arith)
held-top (suc depth) os h = let e : suc depth - 1 ≡ depth = omega arith in rw e refl

pub held-none : (depth : ℕ) (os : List Open) → depth ≡ 0 → held depth os ≡ []
held-none depth os h = rw h refl

pub length-held : (depth : ℕ) (os : List Open) → length (held depth os) ≡ depth
length-held zero os = refl
length-held (suc depth) os = ap (λ n. suc n) (length-held depth os)

-- a write above leaves what is below
pub held-set : (depth : ℕ) (os : List Open) (i : ℕ) (o : Open) → depth ≤ i → held depth (set os i o) ≡ held depth os
held-set zero os i o h = refl
held-set (suc depth) os i o h =
    let below : depth ≢ i = omega arith in rw (get_or-set_other, held-set depth os i o (omega arith))

-- a write at the top
pub held-set_top : (depth : ℕ) (os : List Open) (o : Open) → 0 < depth → depth ≤ length os → held depth (set os (depth - 1) o) ≡ o ∷ held (depth - 1) os
held-set_top depth os o h d =
    let lt : depth - 1 < length os = omega arith in
    rw (held-top depth (set os (depth - 1) o) h, get_or-set_same, held-set (depth - 1) os (depth - 1) o (omega arith))

-- one more
pub held-push : (depth : ℕ) (os : List Open) (o : Open) → depth < length os → held (depth + 1) (set os depth o) ≡ o ∷ held depth os
held-push depth os o d =
    let e : depth + 1 - 1 ≡ depth = omega arith in
    let top = held-set_top (depth + 1) os o (omega arith) (omega arith) in
    rw e at top

pub roomy_more : (n m : ℕ) (os : List Open) → AreRoomy n os → n ≤ m → AreRoomy m os
roomy_more n m [] h le = tt
roomy_more n m (o ∷ os) h le = (omega arith, roomy_more n m os h.1 le)

pub roomy_counted : (n m : ℕ) (os : List Open) → AreRoomy n os → n < m → AreRoomy m (counted os)
roomy_counted n m [] h lt = tt
roomy_counted n m (o ∷ os) h lt = (omega arith, roomy_more n m os h.1 (omega arith))

pub ruleset held_rules = (held-top, held-none, length-held, held-set_top, held-push, roomy_more, roomy_counted)

pub length-counted : (os : List Open) → length (counted os) ≡ length os
length-counted [] = refl
length-counted (o ∷ os) = refl

pub ruleset begun_rules = (length-counted, length-held, length-append)

-- the table still fits once its last row is that of an open node
pub begun_keeps : (rows : List Row) (os : List Open) (depth row : ℕ) (square : Bool) (progress : Progress) → IsRoomy (record { rows = rows; opens = held depth os; progress = progress }) →
    row + 1 ≡ length rows → depth < 12 → length os ≡ 12 →
    (depth + 1 ≤ 12) × IsRoomy (record { rows = rows; opens = held (depth + 1) (set os depth (record { row = row; square = square; count = 0 })); progress = BeforeItem })
begun_keeps rows os depth row square progress h last lt twelve =
    let fits : depth < length os = omega arith in
    (omega arith, record { opens = rw held-push (omega arith, h.opens); word = λ no. cc })
