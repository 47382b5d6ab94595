-- A state keeps the tokens that led to it, and the tokens of an item lead to that item.
use Rattle.std.proofs.Common.{◌≡◌, ℕ, Bool, true, false, Option, Some, None, List, [], ◌∷◌, ◌++◌, refl, sym, ◌∙◌, ap, append_assoc}
use Rattle.std.specs.List.{fold}
use Rattle.std.proofs.lemmas.List.{append-nil}
use Rattle.std.proofs.lemmas.List.Sums.{fold-append}
use Rattle.crs_text.specs.Tokens.{Kind, word, Token, single, comma, opening, closing}
use Rattle.crs_text.specs.Items.{Item, leaf, Siblings, More, tokens, others_tokens}
use Rattle.crs_text.specs.inner.State.{Frame, State, wants, worded, after, start, gather, only_if, same_square, behind_leaf, behind_item, step, move, run}

-- the tokens of complete arguments, the last first, each with a comma after it
abbrev pub before_tokens : List Item → List Token
before_tokens [] = []
before_tokens (item ∷ before) = before_tokens before ++ (tokens item ++ comma ∷ [])

-- the tokens that lead into the open nodes
abbrev pub frames_tokens : List Frame → List Token
frames_tokens [] = []
frames_tokens (f ∷ fs) =
    frames_tokens fs ++ (single word f.place f.keyword ∷ opening f.square ∷ before_tokens f.before)

-- the tokens that lead to a state
abbrev pub unread : State → List Token
unread (wants fs) = frames_tokens fs
unread (worded place raw fs) = frames_tokens fs ++ (single word place raw ∷ [])
unread (after item fs) = frames_tokens fs ++ tokens item

pub only_if-some : (b : Bool) (s n : State) → only_if b s ≡ Some n → (b ≡ true) × (s ≡ n)
only_if-some true s n e = (refl, cc)
only_if-some false s n e = cc

pub same_square-true : (a b : Bool) → same_square a b ≡ true → a ≡ b
same_square-true true true e = refl
same_square-true false false e = refl
same_square-true a b e = cc

pub same_square-refl : (a : Bool) → same_square a a ≡ true
same_square-refl true = refl
same_square-refl false = refl

-- the tokens of a gathered node
pub tokens-gather : (place : ℕ) (keyword : List ℕ) (square : Bool) (before : List Item) (item : Item) (later : Siblings) (close : ℕ) →
    tokens (gather place keyword square before item later close) ≡
    single word place keyword ∷ opening square ∷ (before_tokens before ++ (tokens item ++ (others_tokens later ++ closing close square ∷ [])))
tokens-gather place keyword square [] item later close = simp append_assoc
tokens-gather place keyword square (b ∷ before) item later close =
    tokens-gather place keyword square before b (More item later) close ∙ simp append_assoc

unread-behind : (item : Item) (fs : List Frame) (t : Token) (n : State) → behind_item item fs t ≡ Some n → unread n ≡ (frames_tokens fs ++ tokens item) ++ t ∷ []
unread-behind item (f ∷ fs) comma n e =
    let h : wants (record f { before = item ∷ f.before } ∷ fs) ≡ n = cc in
    rw (← h) (simp append_assoc)
unread-behind item (f ∷ fs) (closing place square) n e =
    let h = only_if-some (same_square square f.square) _ n e in
    let g = same_square-true square f.square h.0 in
    rw (← h.1, g) (simp (tokens-gather, append_assoc))
unread-behind item fs t n e = cc

unread-leaf : (kind : Kind) (place : ℕ) (raw : List ℕ) (fs : List Frame) → unread (behind_leaf kind place raw fs) ≡ frames_tokens fs ++ single kind place raw ∷ []
unread-leaf word place raw fs = refl
unread-leaf kind place raw fs = refl

pub unread-step : (limit : ℕ) (s : State) (t : Token) (n : State) → step limit s t ≡ Some n → unread n ≡ unread s ++ t ∷ []
unread-step limit (wants []) (single word place raw) n e = let h : worded place raw [] ≡ n = cc in rw (← h) refl
unread-step limit (wants (f ∷ fs)) (single kind place raw) n e =
    let h : behind_leaf kind place raw (f ∷ fs) ≡ n = cc in
    rw (← h) (unread-leaf kind place raw (f ∷ fs))
unread-step limit (wants fs) t n e = cc
unread-step limit (worded place raw fs) (opening square) n e =
    let h = only_if-some _ _ n e in rw (← h.1) (simp append_assoc)
unread-step limit (worded place raw fs) t n e = unread-behind (leaf word place raw) fs t n e
unread-step limit (after item fs) t n e = unread-behind item fs t n e

fold-none : (limit : ℕ) (ts : List Token) → fold (move limit) None ts ≡ None
fold-none limit [] = refl
fold-none limit (t ∷ ts) = fold-none limit ts

pub run-cons : (limit : ℕ) (s : State) (t : Token) (n : State) (ts : List Token) → step limit s t ≡ Some n → run limit s (t ∷ ts) ≡ run limit n ts
run-cons limit s t n ts e = ap (λ o. fold (move limit) o ts) e

pub run-append : (limit : ℕ) (s n : State) (ts us : List Token) → run limit s ts ≡ Some n → run limit s (ts ++ us) ≡ run limit n us
run-append limit s n ts us e = fold-append (move limit) (Some s) ts us ∙ ap (λ o. fold (move limit) o us) e

-- one token more
pub run-more : (limit : ℕ) (ts : List Token) (s : State) (t : Token) (n : State) → run limit start ts ≡ Some s → step limit s t ≡ Some n → run limit start (ts ++ t ∷ []) ≡ Some n
run-more limit ts s t n e k = run-append limit start s ts (t ∷ []) e ∙ k

-- what begins a list that is taken is taken
pub run-front : (limit : ℕ) (s n : State) (ts us : List Token) → run limit s (ts ++ us) ≡ Some n → (m : State) × (run limit s ts ≡ Some m) × (run limit m us ≡ Some n)
run-front limit s n ts us e = go (run limit s ts) (sym (fold-append (move limit) (Some s) ts us) ∙ e)
  where
    go : (o : Option State) → fold (move limit) o us ≡ Some n → (m : State) × (o ≡ Some m) × (run limit m us ≡ Some n)
    go None k = absurd (let none : None ≡ Some n = sym (fold-none limit us) ∙ k in cc)
    go (Some m) k = (m, refl, k)

pub run-some : (limit : ℕ) (s : State) (t : Token) (ts : List Token) (n : State) → run limit s (t ∷ ts) ≡ Some n → (m : State) × (step limit s t ≡ Some m) × (run limit m ts ≡ Some n)
run-some limit s t ts n e = run-front limit s n (t ∷ []) ts e

-- the last token is taken by the state before it
pub run-last : (limit : ℕ) (ts : List Token) (s : State) (t : Token) (n : State) → run limit start ts ≡ Some s → run limit start (ts ++ t ∷ []) ≡ Some n → step limit s t ≡ Some n
run-last limit ts s t n e k = sym (run-append limit start s ts (t ∷ []) e) ∙ k

pub unread-run : (limit : ℕ) (ts : List Token) (s n : State) → run limit s ts ≡ Some n → unread n ≡ unread s ++ ts
unread-run limit [] s n e = let h : s ≡ n = cc in rw (← h) (sym (append-nil _))
unread-run limit (t ∷ ts) s n e =
    let r = run-some limit s t ts n e in
    unread-run limit ts r.0 n r.2 ∙ ap (λ l. l ++ ts) (unread-step limit s t r.0 r.1) ∙ append_assoc (unread s) (t ∷ []) ts
