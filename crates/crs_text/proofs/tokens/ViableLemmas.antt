-- The tokens of an item are taken one by one, every state can be completed, and so viable tokens are those that are taken.
use Rattle.std.proofs.Common.{◌≡◌, ℕ, suc, ◌+◌, ◌≤◌, ◌<◌, Bool, true, Some, List, [], ◌∷◌, ◌++◌, length, refl, sym, ◌∙◌, ap, append_assoc, arith}
use Rattle.std.proofs.lemmas.Bool.{lt-ltb}
use Rattle.std.proofs.lemmas.List.{append-nil}
use Rattle.crs_text.specs.Tokens.{number, word, Token, single, comma, opening, closing}
use Rattle.crs_text.specs.Items.{Item, leaf, node, Siblings, End, More, tokens, others_tokens, depth, depths, IsNode, AreNode}
use Rattle.crs_text.specs.Viable.{IsViable}
use Rattle.crs_text.specs.inner.State.{Frame, State, wants, worded, after, start, gather, behind_leaf, step, run}
use Rattle.crs_text.proofs.rows.StateLemmas.{same_square-refl, unread-run, run-cons, run-append, run-front}
use Rattle.crs_text.proofs.rows.LimitLemmas.{sound-run}

abbrev pub IsInPlace : List Frame → Item → Type 0
IsInPlace [] item = IsNode item
IsInPlace (f ∷ fs) item = Unit {0}

-- the state after an item's last token
abbrev pub ended : Item → List Frame → State
ended (leaf kind place raw) fs = behind_leaf kind place raw fs
ended (node place keyword square first others close) fs = after (node place keyword square first others close) fs

step-word : (limit place : ℕ) (raw : List ℕ) (fs : List Frame) → step limit (wants fs) (single word place raw) ≡ Some (worded place raw fs)
step-word limit place raw [] = refl
step-word limit place raw (f ∷ fs) = refl

pub step-opening : (limit place : ℕ) (raw : List ℕ) (fs : List Frame) (square : Bool) → length fs < limit →
    step limit (worded place raw fs) (opening square) ≡ Some (wants (record { place = place; keyword = raw; square = square; before = [] } ∷ fs))
step-opening limit place raw fs square h = rw (lt-ltb (length fs) limit h) refl

step-comma : (limit : ℕ) (item : Item) (f : Frame) (fs : List Frame) → step limit (ended item (f ∷ fs)) comma ≡ Some (wants (record f { before = item ∷ f.before } ∷ fs))
step-comma limit (leaf word place raw) f fs = refl
step-comma limit item f fs = refl

pub step-closing : (limit : ℕ) (item : Item) (f : Frame) (fs : List Frame) (close : ℕ) →
    step limit (ended item (f ∷ fs)) (closing close f.square) ≡ Some (after (gather f.place f.keyword f.square f.before item End close) fs)
step-closing limit (leaf word place raw) f fs close = rw (same_square-refl f.square) refl
step-closing limit item f fs close = rw (same_square-refl f.square) refl

pub node_tokens : (a b : List Token) (t : Token) (more : List Token) → (a ++ b ++ t ∷ []) ++ more ≡ a ++ (b ++ t ∷ more)
node_tokens a b t more = simp append_assoc

mutual
  run-item : (item : Item) (limit : ℕ) (fs : List Frame) (more : List Token) → IsInPlace fs item → depth item + length fs ≤ limit →
      run limit (wants fs) (tokens item ++ more) ≡ run limit (ended item fs) more
  run-item (leaf kind place raw) limit [] more h d = absurd h
  run-item (leaf kind place raw) limit (f ∷ fs) more h d = refl
  run-item (node place keyword square first others close) limit fs more h d =
      let f : Frame = record { place = place; keyword = keyword; square = square; before = [] } in
      let inner : List Token = (tokens first ++ others_tokens others ++ closing close square ∷ []) ++ more in
      run-cons limit (wants fs) (single word place keyword) (worded place keyword fs) (opening square ∷ inner) (step-word limit place keyword fs)
      ∙ run-cons limit (worded place keyword fs) (opening square) (wants (f ∷ fs)) inner (step-opening limit place keyword fs square (omega arith))
      ∙ rw node_tokens (run-item first limit (f ∷ fs) (others_tokens others ++ closing close square ∷ more) tt (omega arith) ∙ run-others others limit first f fs more close (omega arith))

  run-others : (items : Siblings) (limit : ℕ) (item : Item) (f : Frame) (fs : List Frame) (more : List Token) (close : ℕ) → depths items + suc (length fs) ≤ limit →
      run limit (ended item (f ∷ fs)) (others_tokens items ++ closing close f.square ∷ more) ≡
      run limit (after (gather f.place f.keyword f.square f.before item items close) fs) more
  run-others End limit item f fs more close d = run-cons limit (ended item (f ∷ fs)) (closing close f.square) _ more (step-closing limit item f fs close)
  run-others (More j items) limit item f fs more close d =
      let g : Frame = record f { before = item ∷ f.before } in
      run-cons limit (ended item (f ∷ fs)) comma (wants (g ∷ fs)) ((tokens j ++ others_tokens items) ++ closing close f.square ∷ more) (step-comma limit item f fs)
      ∙ rw append_assoc (run-item j limit (g ∷ fs) (others_tokens items ++ closing close f.square ∷ more) tt (omega arith) ∙ run-others items limit j g fs more close (omega arith))

ended-node : (item : Item) (fs : List Frame) → IsNode item → ended item fs ≡ after item fs
ended-node (leaf kind place raw) fs h = absurd h
ended-node (node place keyword square first others close) fs h = refl

-- a node's tokens lead to that node
pub run-node : (limit : ℕ) (item : Item) → IsNode item → depth item ≤ limit → run limit start (tokens item) ≡ Some (after item [])
run-node limit item h d =
    ap (λ ts. run limit start ts) (sym (append-nil (tokens item)))
    ∙ run-item item limit [] [] h (omega arith)
    ∙ ap (λ s. Some s) (ended-node item [] h)

-- some tokens close what is open
abbrev pub Completes : ℕ → State → Type 0
Completes limit s = (more : List Token) × (item : Item) × (run limit s more ≡ Some (after item []))

completes-after : (limit : ℕ) (fs : List Frame) (item : Item) → Completes limit (after item fs)
completes-after limit [] item = ([], item, refl)
completes-after limit (f ∷ fs) item =
    let j = gather f.place f.keyword f.square f.before item End 0 in
    let r = completes-after limit fs j in
    (closing 0 f.square ∷ r.0, r.1, run-cons limit (after item (f ∷ fs)) (closing 0 f.square) (after j fs) r.0 (rw (same_square-refl f.square) refl) ∙ r.2)

completes-wants : (limit : ℕ) (f : Frame) (fs : List Frame) → Completes limit (wants (f ∷ fs))
completes-wants limit f fs = let r = completes-after limit (f ∷ fs) (leaf number 0 []) in (single number 0 [] ∷ r.0, r.1, r.2)

completes-word : (limit place : ℕ) (raw : List ℕ) → 0 < limit → Completes limit (worded place raw [])
completes-word limit place raw h =
    let f : Frame = record { place = place; keyword = raw; square = true; before = [] } in
    let r = completes-wants limit f [] in
    (opening true ∷ r.0, r.1, run-cons limit (worded place raw []) (opening true) (wants (f ∷ [])) r.0 (step-opening limit place raw [] true h) ∙ r.2)

pub completes : (limit : ℕ) (s : State) → 0 < limit → Completes limit s
completes limit (wants []) h = let r = completes-word limit 0 [] h in (single word 0 [] ∷ r.0, r.1, r.2)
completes limit (wants (f ∷ fs)) h = completes-wants limit f fs
completes limit (worded place raw []) h = completes-word limit place raw h
completes limit (worded place raw (f ∷ fs)) h =
    let j = gather f.place f.keyword f.square f.before (leaf word place raw) End 0 in
    let r = completes-after limit fs j in
    (closing 0 f.square ∷ r.0, r.1, run-cons limit (worded place raw (f ∷ fs)) (closing 0 f.square) (after j fs) r.0 (rw (same_square-refl f.square) refl) ∙ r.2)
completes limit (after item fs) h = completes-after limit fs item

pub completed : (limit : ℕ) (ts : List Token) (s : State) → 0 < limit → run limit start ts ≡ Some s →
    (more : List Token) × (item : Item) × IsNode item × (depth item ≤ limit) × (ts ++ more ≡ tokens item)
completed limit ts s h e =
    let r = completes limit s h in
    let whole : run limit start (ts ++ r.0) ≡ Some (after r.1 []) = run-append limit start s ts r.0 e ∙ r.2 in
    let sound = sound-run limit (ts ++ r.0) start (after r.1 []) tt whole in
    (r.0, r.1, sound.1, omega arith, sym (unread-run limit (ts ++ r.0) start (after r.1 []) whole))

pub taken : (limit : ℕ) (ts more : List Token) (item : Item) → IsNode item → depth item ≤ limit → ts ++ more ≡ tokens item →
    (s : State) × (run limit start ts ≡ Some s)
taken limit ts more item h d e =
    let r = run-front limit start (after item []) ts more (ap (λ l. run limit start l) e ∙ run-node limit item h d) in
    (r.0, r.1)

pub viable_from_run : (ts : List Token) (s : State) → run 12 start ts ≡ Some s → IsViable ts
viable_from_run ts s e =
    let r = completed 12 ts s (omega arith) e in
    (r.0, r.1, record { is_node = r.2; within = r.3; are = r.4 })

pub run_from_viable : (ts : List Token) → IsViable ts → (s : State) × (run 12 start ts ≡ Some s)
run_from_viable ts v = taken 12 ts v.0 v.1 v.2.is_node v.2.within v.2.are

-- the tokens that lead to a whole node are the node's, and no others
pub whole_from_run : (ts : List Token) (item : Item) → run 12 start ts ≡ Some (after item []) → AreNode item ts
whole_from_run ts item e =
    let sound = sound-run 12 ts start (after item []) tt e in
    record { is_node = sound.1; within = omega arith; are = sym (unread-run 12 ts start (after item []) e) }

pub run_from_whole : (ts : List Token) (item : Item) → AreNode item ts → run 12 start ts ≡ Some (after item [])
run_from_whole ts item h = ap (λ l. run 12 start l) h.are ∙ run-node 12 item h.is_node h.within

pub viable_front : (ts more : List Token) → IsViable (ts ++ more) → IsViable ts
viable_front ts more v =
    (more ++ v.0, v.1, record { is_node = v.2.is_node; within = v.2.within; are = sym (append_assoc ts more v.0) ∙ v.2.are })
