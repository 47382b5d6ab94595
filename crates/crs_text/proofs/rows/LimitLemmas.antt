-- What holds in every state that tokens lead to: the open nodes and the items in them keep within the limit.
use Rattle.std.proofs.Common.{◌≡◌, ℕ, suc, ◌+◌, ◌≤◌, Bool, Some, List, [], ◌∷◌, length, subst, arith}
use Rattle.std.proofs.lemmas.Bool.{ltb-true}
use Rattle.crs_text.specs.Tokens.{Kind, number, text, word, Token, single, comma, opening, closing}
use Rattle.crs_text.specs.Items.{Item, leaf, node, Siblings, End, More, depth, depths, IsNode}
use Rattle.crs_text.specs.inner.State.{Frame, State, wants, worded, after, gather, behind_leaf, behind_item, step, run}
use Rattle.crs_text.proofs.rows.StateLemmas.{only_if-some, run-some}

abbrev pub EachFits : ℕ → ℕ → List Item → Type 0
EachFits limit held [] = Unit {0}
EachFits limit held (item ∷ items) = (depth item + held ≤ limit) × EachFits limit held items

abbrev pub AreSound : ℕ → List Frame → Type 0
AreSound limit [] = Unit {0}
AreSound limit (f ∷ fs) = EachFits limit (suc (length fs)) f.before × (suc (length fs) ≤ limit) × AreSound limit fs

-- an item after which no opening delimiter is allowed: the root is a node, and no other is a word
abbrev pub IsEnded : List Frame → Item → Type 0
IsEnded [] item = IsNode item
IsEnded (f ∷ fs) (leaf number place raw) = Unit {0}
IsEnded (f ∷ fs) (leaf text place raw) = Unit {0}
IsEnded (f ∷ fs) (leaf word place raw) = ⊥
IsEnded (f ∷ fs) (node place keyword square first others close) = Unit {0}

abbrev pub IsSound : ℕ → State → Type 0
IsSound limit (wants fs) = AreSound limit fs
IsSound limit (worded place raw fs) = AreSound limit fs
IsSound limit (after item fs) = AreSound limit fs × IsEnded fs item × (depth item + length fs ≤ limit)

pub IsNode-gather : (place : ℕ) (keyword : List ℕ) (square : Bool) (before : List Item) (item : Item) (later : Siblings) (close : ℕ) →
    IsNode (gather place keyword square before item later close)
IsNode-gather place keyword square [] item later close = tt
IsNode-gather place keyword square (b ∷ before) item later close = IsNode-gather place keyword square before b (More item later) close

IsEnded-node : (fs : List Frame) (item : Item) → IsNode item → IsEnded fs item
IsEnded-node fs (leaf kind place raw) h = absurd h
IsEnded-node [] (node place keyword square first others close) h = tt
IsEnded-node (f ∷ fs) (node place keyword square first others close) h = tt

depth-gather : (place : ℕ) (keyword : List ℕ) (square : Bool) (before : List Item) (item : Item) (later : Siblings) (close limit n : ℕ) →
    EachFits limit (suc n) before → depth item + suc n ≤ limit → depths later + suc n ≤ limit → depth (gather place keyword square before item later close) + n ≤ limit
depth-gather place keyword square [] item later close limit n each here rest = omega arith
depth-gather place keyword square (b ∷ before) item later close limit n each here rest =
    depth-gather place keyword square before b (More item later) close limit n each.1 each.0 (omega arith)

sound-behind : (limit : ℕ) (item : Item) (fs : List Frame) (t : Token) (n : State) → AreSound limit fs → depth item + length fs ≤ limit →
    behind_item item fs t ≡ Some n → IsSound limit n
sound-behind limit item (f ∷ fs) comma n s d e =
    let h : wants (record f { before = item ∷ f.before } ∷ fs) ≡ n = cc in
    subst (IsSound limit) h (((omega arith), s.0), s.1, s.2)
sound-behind limit item (f ∷ fs) (closing place square) n s d e =
    let h = only_if-some _ _ n e in
    subst (IsSound limit) h.1 (
      s.2,
      IsEnded-node fs _ (IsNode-gather f.place f.keyword f.square f.before item End place),
      depth-gather f.place f.keyword f.square f.before item End place limit (length fs) s.0 (omega arith) (omega arith),
    )
sound-behind limit item fs t n s d e = cc

sound-leaf : (limit : ℕ) (kind : Kind) (place : ℕ) (raw : List ℕ) (f : Frame) (fs : List Frame) → AreSound limit (f ∷ fs) → IsSound limit (behind_leaf kind place raw (f ∷ fs))
sound-leaf limit word place raw f fs s = s
sound-leaf limit kind place raw f fs s = (s, tt, omega arith)

pub sound-step : (limit : ℕ) (s : State) (t : Token) (n : State) → IsSound limit s → step limit s t ≡ Some n → IsSound limit n
sound-step limit (wants []) (single word place raw) n s e = let h : worded place raw [] ≡ n = cc in subst (IsSound limit) h tt
sound-step limit (wants (f ∷ fs)) (single kind place raw) n s e =
    let h : behind_leaf kind place raw (f ∷ fs) ≡ n = cc in subst (IsSound limit) h (sound-leaf limit kind place raw f fs s)
sound-step limit (wants fs) t n s e = cc
sound-step limit (worded place raw fs) (opening square) n s e =
    let h = only_if-some _ _ n e in
    let lt = ltb-true _ _ h.0 in
    subst (IsSound limit) h.1 (tt, omega arith, s)
sound-step limit (worded place raw []) t n s e = cc
sound-step limit (worded place raw (f ∷ fs)) t n s e = sound-behind limit (leaf word place raw) (f ∷ fs) t n s (omega arith) e
sound-step limit (after item fs) t n s e = sound-behind limit item fs t n s.0 s.2 e

pub sound-run : (limit : ℕ) (ts : List Token) (s n : State) → IsSound limit s → run limit s ts ≡ Some n → IsSound limit n
sound-run limit [] s n h e = let k : s ≡ n = cc in subst (IsSound limit) k h
sound-run limit (t ∷ ts) s n h e =
    let r = run-some limit s t ts n e in
    sound-run limit ts r.0 n (sound-step limit s t r.0 h r.1) r.2
