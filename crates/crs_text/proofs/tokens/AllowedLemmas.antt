-- Which token may follow, read off the tokens themselves, is which token a state takes.
use Rattle.std.proofs.Common.{le-ltb, ◌≡◌, ℕ, suc, ◌+◌, ◌≤◌, inl, inr, Bool, true, Option, Some, None, List, [], ◌∷◌, ◌++◌, length, refl, sym, ◌∙◌, ap, subst, append_assoc, arith}
use Rattle.std.specs.List.{fold, last_or}
use Rattle.std.proofs.lemmas.Bool.{cases_lt, ltb-true}
use Rattle.std.proofs.lemmas.List.{append-nil}
use Rattle.std.proofs.lemmas.List.Sums.{fold-append}
use Rattle.crs_text.specs.Tokens.{word, Token, single, comma, opening, closing}
use Rattle.crs_text.specs.Items.{Item, leaf, node, Siblings, End, More, tokens, others_tokens, depth}
use Rattle.crs_text.specs.Viable.{IsViable, IsViableAtAnyDepth, open_after, opens, last_of, GoesOn, IsSingleToken, MayFollow, Allows, IsFull}
use Rattle.crs_text.specs.inner.State.{Frame, State, wants, worded, after, start, gather, behind_leaf, behind_item, step, run}
use Rattle.crs_text.proofs.rows.StateLemmas.{only_if-some, same_square-true, same_square-refl, unread-run, run-cons, run-some, run-more, run-last, before_tokens, frames_tokens, unread}
use Rattle.crs_text.proofs.rows.LimitLemmas.{AreSound, IsSound, sound-run}
use Rattle.crs_text.proofs.tokens.ViableLemmas.{node_tokens, step-opening, taken, completed, viable_from_run, run_from_viable}

mutual
  -- the tokens of an item leave open what is
  pub opens-item : (item : Item) (held : List Bool) (more : List Token) → fold open_after held (tokens item ++ more) ≡ fold open_after held more
  opens-item (leaf kind place raw) held more = refl
  opens-item (node place keyword square first others close) held more =
      rw (node_tokens, opens-item first, opens-others others)

  opens-others : (items : Siblings) (held : List Bool) (more : List Token) → fold open_after held (others_tokens items ++ more) ≡ fold open_after held more
  opens-others End held more = refl
  opens-others (More item items) held more =
      rw (append_assoc, opens-item item, opens-others items)

opens-before : (before : List Item) (held : List Bool) → fold open_after held (before_tokens before) ≡ held
opens-before [] held = refl
opens-before (item ∷ before) held = rw (fold-append, opens-before before, opens-item item)

abbrev pub squares : List Frame → List Bool
squares [] = []
squares (f ∷ fs) = f.square ∷ squares fs

pub length-squares : (fs : List Frame) → length (squares fs) ≡ length fs
length-squares [] = refl
length-squares (f ∷ fs) = ap (λ n. suc n) (length-squares fs)

opens-frames : (fs : List Frame) → fold open_after [] (frames_tokens fs) ≡ squares fs
opens-frames [] = refl
opens-frames (f ∷ fs) = rw (fold-append, opens-frames fs, opens-before)

abbrev pub frames_of : State → List Frame
frames_of (wants fs) = fs
frames_of (worded place raw fs) = fs
frames_of (after item fs) = fs

pub opens-unread : (s : State) → opens (unread s) ≡ squares (frames_of s)
opens-unread (wants fs) = opens-frames fs
opens-unread (worded place raw fs) = rw (fold-append, opens-frames)
opens-unread (after item fs) = rw (fold-append, opens-frames, ← append-nil (tokens item), opens-item)

last-append : (o : Option Token) (xs ys : List Token) → last_or o (xs ++ ys) ≡ last_or (last_or o xs) ys
last-append o [] ys = refl
last-append o (x ∷ xs) ys = last-append (Some x) xs ys

abbrev pub last_of_item : Item → Token
last_of_item (leaf kind place raw) = single kind place raw
last_of_item (node place keyword square first others close) = closing close square

last-item : (o : Option Token) (item : Item) → last_or o (tokens item) ≡ Some (last_of_item item)
last-item o (leaf kind place raw) = refl
last-item o (node place keyword square first others close) =
    last-append (Some (opening square)) (tokens first ++ others_tokens others) (closing close square ∷ [])

abbrev pub last_of_open : Frame → Token
last_of_open f = elim f.before [ [] ↦ opening f.square | item ∷ before ↦ comma ]

last-open : (o : Option Token) (f : Frame) → last_or o (single word f.place f.keyword ∷ opening f.square ∷ before_tokens f.before) ≡ Some (last_of_open f)
last-open o f = go f.before
  where
    go : (before : List Item) → last_or (Some (opening f.square)) (before_tokens before) ≡ Some (last_of_open (record f { before = before }))
    go [] = refl
    go (item ∷ before) = simp last-append

abbrev pub last_token : State → Option Token
last_token (wants []) = None
last_token (wants (f ∷ fs)) = Some (last_of_open f)
last_token (worded place raw fs) = Some (single word place raw)
last_token (after item fs) = Some (last_of_item item)

pub last-unread : (s : State) → last_of (unread s) ≡ last_token s
last-unread (wants []) = refl
last-unread (wants (f ∷ fs)) = last-append None (frames_tokens fs) _ ∙ last-open (last_or None (frames_tokens fs)) f
last-unread (worded place raw fs) = last-append None (frames_tokens fs) _
last-unread (after item fs) = last-append None (frames_tokens fs) (tokens item) ∙ last-item (last_or None (frames_tokens fs)) item

abbrev pub Takes : ℕ → State → Token → Type 0
Takes limit s t = (n : State) × (step limit s t ≡ Some n)

goes_on_from_behind : (item : Item) (f : Frame) (fs : List Frame) (t : Token) (n : State) → behind_item item (f ∷ fs) t ≡ Some n → GoesOn f.square t
goes_on_from_behind item f fs comma n e = tt
goes_on_from_behind item f fs (closing place square) n e = same_square-true square f.square (only_if-some _ _ n e).0
goes_on_from_behind item f fs t n e = cc

behind_from_goes_on : (item : Item) (f : Frame) (fs : List Frame) (t : Token) → GoesOn f.square t → (n : State) × (behind_item item (f ∷ fs) t ≡ Some n)
behind_from_goes_on item f fs comma h = (wants (record f { before = item ∷ f.before } ∷ fs), refl)
behind_from_goes_on item f fs (closing place square) h =
    (after (gather f.place f.keyword f.square f.before item End place) fs, rw (h, same_square-refl f.square) refl)
behind_from_goes_on item f fs t h = absurd h

-- after an opening delimiter or a comma an item must come
wants_single : (f : Frame) (held : List Bool) (t : Token) → MayFollow (Some (last_of_open f)) held t ≡ IsSingleToken t
wants_single f held t = go f.before
  where
    go : (before : List Item) → MayFollow (Some (last_of_open (record f { before = before }))) held t ≡ IsSingleToken t
    go [] = refl
    go (item ∷ before) = refl

follows_from_takes : (s : State) (t : Token) → IsSound 12 s → Takes 12 s t → MayFollow (last_token s) (squares (frames_of s)) t
follows_from_takes (wants []) (single word place raw) s e = tt
follows_from_takes (wants []) t s e = cc
follows_from_takes (wants (f ∷ fs)) (single kind place raw) s e = rw wants_single tt
follows_from_takes (wants (f ∷ fs)) t s e = cc
follows_from_takes (worded place raw []) (opening square) s e = tt
follows_from_takes (worded place raw []) t s e = cc
follows_from_takes (worded place raw (f ∷ fs)) (single k p r) s e = cc
follows_from_takes (worded place raw (f ∷ fs)) comma s e = inl tt
follows_from_takes (worded place raw (f ∷ fs)) (opening square) s e =
    let h = ltb-true _ _ (only_if-some _ _ e.0 e.1).0 in
    inr (tt, omega (arith, length-squares fs))
follows_from_takes (worded place raw (f ∷ fs)) (closing p square) s e = inl (goes_on_from_behind (leaf word place raw) f fs (closing p square) e.0 e.1)
follows_from_takes (after item []) t s e = cc
follows_from_takes (after (leaf word place raw) (f ∷ fs)) t s e = absurd s.1
follows_from_takes (after item (f ∷ fs)) t s e = goes_on_from_behind item f fs t e.0 e.1

takes_from_follows : (s : State) (t : Token) → IsSound 12 s → MayFollow (last_token s) (squares (frames_of s)) t → Takes 12 s t
takes_from_follows (wants []) (single word place raw) s h = (worded place raw [], refl)
takes_from_follows (wants []) t s h = absurd h
takes_from_follows (wants (f ∷ fs)) (single kind place raw) s h = (behind_leaf kind place raw (f ∷ fs), refl)
takes_from_follows (wants (f ∷ fs)) t s h = absurd (rw wants_single at h)
takes_from_follows (worded place raw []) (opening square) s h = (wants (record { place = place; keyword = raw; square = square; before = [] } ∷ []), step-opening 12 place raw [] square (omega arith))
takes_from_follows (worded place raw []) t s h = absurd h
takes_from_follows (worded place raw (f ∷ fs)) (opening square) s (inl h) = absurd h
takes_from_follows (worded place raw (f ∷ fs)) (opening square) s (inr h) =
    (wants (record { place = place; keyword = raw; square = square; before = [] } ∷ f ∷ fs), step-opening 12 place raw (f ∷ fs) square (omega (arith, length-squares fs)))
takes_from_follows (worded place raw (f ∷ fs)) t s (inl h) = behind_from_goes_on (leaf word place raw) f fs t h
takes_from_follows (worded place raw (f ∷ fs)) t s (inr h) = absurd h.0
takes_from_follows (after (leaf word place raw) []) t s h = absurd s.1
takes_from_follows (after (leaf word place raw) (f ∷ fs)) t s h = absurd s.1
takes_from_follows (after item []) t s h = absurd h
takes_from_follows (after item (f ∷ fs)) t s h = behind_from_goes_on item f fs t h

-- a list and the state that it leads to agree on the last token and on what is open, and so on which token may follow
unread_is : (ts : List Token) (s : State) → run 12 start ts ≡ Some s → (last_of ts ≡ last_token s) × (opens ts ≡ squares (frames_of s))
unread_is ts s e = subst (λ l. (last_of l ≡ last_token s) × (opens l ≡ squares (frames_of s))) (unread-run 12 ts start s e) (last-unread s, opens-unread s)

allows-unread : (ts : List Token) (s : State) (t : Token) → run 12 start ts ≡ Some s → Allows ts t ≡ MayFollow (last_token s) (squares (frames_of s)) t
allows-unread ts s t e = let shown = unread_is ts s e in rw (shown.0, shown.1)

pub allows_from_viable : (ts : List Token) (t : Token) → IsViable ts → IsViable (ts ++ t ∷ []) → Allows ts t
allows_from_viable ts t v w =
    let a = run_from_viable ts v in
    let b = run_from_viable (ts ++ t ∷ []) w in
    subst (λ A. A) (sym (allows-unread ts a.0 t a.1)) (follows_from_takes a.0 t (sound-run 12 ts start a.0 tt a.1) (b.0, run-last 12 ts a.0 t b.0 a.1 b.1))

pub viable_from_allows : (ts : List Token) (t : Token) → IsViable ts → Allows ts t → IsViable (ts ++ t ∷ [])
viable_from_allows ts t v h =
    let a = run_from_viable ts v in
    let c = takes_from_follows a.0 t (sound-run 12 ts start a.0 tt a.1) (subst (λ A. A) (allows-unread ts a.0 t a.1) h) in
    viable_from_run (ts ++ t ∷ []) c.0 (run-more 12 ts a.0 t c.0 a.1 c.1)

-- a higher limit takes what a lower one does
weaker-step : (limit : ℕ) (s : State) (t : Token) (n : State) → 12 ≤ limit → step 12 s t ≡ Some n → step limit s t ≡ Some n
weaker-step limit (wants []) (single word place raw) n h e = e
weaker-step limit (wants (f ∷ fs)) (single k p r) n h e = e
weaker-step limit (wants fs) t n h e = cc
weaker-step limit (worded place raw fs) (opening square) n h e =
    let k = only_if-some _ _ n e in
    let lt = ltb-true _ _ k.0 in
    step-opening limit place raw fs square (omega arith) ∙ ap (λ m. Some m) k.1
weaker-step limit s t n h e = e

weaker-run : (limit : ℕ) (ts : List Token) (s n : State) → 12 ≤ limit → run 12 s ts ≡ Some n → run limit s ts ≡ Some n
weaker-run limit [] s n h e = e
weaker-run limit (t ∷ ts) s n h e =
    let r = run-some 12 s t ts n e in
    run-cons limit s t r.0 ts (weaker-step limit s t r.0 h r.1) ∙ weaker-run limit ts r.0 n h r.2

-- an opening delimiter directly after a word is viable but for the limit
pub deep_from_word : (ts : List Token) (place : ℕ) (raw : List ℕ) (fs : List Frame) (square : Bool) → run 12 start ts ≡ Some (worded place raw fs) →
    IsViableAtAnyDepth (ts ++ opening square ∷ [])
deep_from_word ts place raw fs square e =
    let limit : ℕ = length fs + 13 in
    let long : run limit start ts ≡ Some (worded place raw fs) = weaker-run limit ts start (worded place raw fs) (omega arith) e in
    let r = completed limit (ts ++ opening square ∷ []) _ (omega arith) (run-more limit ts _ (opening square) _ long (step-opening limit place raw fs square (omega arith))) in
    (r.0, r.1, r.2, r.4)

-- what a state doesn't take makes no viable list
pub not_viable_from_none : (ts : List Token) (s : State) (t : Token) → run 12 start ts ≡ Some s → step 12 s t ≡ None → ¬ (IsViable (ts ++ t ∷ []))
not_viable_from_none ts s t e none v =
    let b = run_from_viable (ts ++ t ∷ []) v in
    let k = run-last 12 ts s t b.0 e b.1 in
    cc

abbrev IsWorded : State → Type 0
IsWorded s = (place : ℕ) × (raw : List ℕ) × (fs : List Frame) × (s ≡ worded place raw fs)

worded_from_opening : (limit : ℕ) (s : State) (square : Bool) (m : State) → step limit s (opening square) ≡ Some m → IsWorded s
worded_from_opening limit (worded place raw fs) square m e = (place, raw, fs, refl)
worded_from_opening limit (wants []) square m e = cc
worded_from_opening limit (after item []) square m e = cc
worded_from_opening limit s square m e = cc

-- an opening delimiter is viable but for the limit directly after a word alone
pub worded_from_deep : (ts : List Token) (s : State) (square : Bool) → run 12 start ts ≡ Some s → IsViableAtAnyDepth (ts ++ opening square ∷ []) → IsWorded s
worded_from_deep ts s square e v =
    let limit : ℕ = depth v.1 + 12 in
    let b = taken limit (ts ++ opening square ∷ []) v.0 v.1 v.2 (omega arith) v.3 in
    let long : run limit start ts ≡ Some s = weaker-run limit ts start s (omega arith) e in
    worded_from_opening limit s square b.0 (run-last limit ts s (opening square) b.0 long b.1)

within_from_sound : (fs : List Frame) → AreSound 12 fs → length fs ≤ 12
within_from_sound [] h = omega arith
within_from_sound (f ∷ fs) h = h.1

none_from_full : (place : ℕ) (raw : List ℕ) (fs : List Frame) (square : Bool) → 12 ≤ length fs → step 12 (worded place raw fs) (opening square) ≡ None
none_from_full place raw fs square h = rw le-ltb

pub full_from_deep : (ts : List Token) (square : Bool) → IsViable ts → IsViableAtAnyDepth (ts ++ opening square ∷ []) → ¬ (IsViable (ts ++ opening square ∷ [])) → IsFull ts
full_from_deep ts square v deep refused =
    let a = run_from_viable ts v in
    let (place, raw, fs, is) = worded_from_deep ts a.0 square a.1 deep in
    let e : run 12 start ts ≡ Some (worded place raw fs) = a.1 ∙ ap Some is in
    let shown = unread_is ts (worded place raw fs) e in
    let full : length fs ≡ 12 = elim (cases_lt (length fs) 12) [
      | inl lt ↦ absurd (refused (viable_from_run (ts ++ opening square ∷ []) _ (run-more 12 ts _ (opening square) _ e (step-opening 12 place raw fs square lt))))
      | inr le ↦ omega (arith, within_from_sound fs (sound-run 12 ts start (worded place raw fs) tt e))
    ] in
    (place, raw, shown.0, ap length shown.1 ∙ length-squares fs ∙ full)

word_from_last : (s : State) (place : ℕ) (raw : List ℕ) → IsSound 12 s → last_token s ≡ Some (single word place raw) → IsWorded s
word_from_last (wants []) place raw s e = cc
word_from_last (wants (f ∷ fs)) place raw s e = absurd (subst (λ A. A) (ap (λ o. MayFollow o [] (opening true)) (sym e) ∙ wants_single f [] (opening true)) tt)
word_from_last (worded p r fs) place raw s e = (p, r, fs, refl)
word_from_last (after (leaf kind p r) []) place raw s e = absurd s.1
word_from_last (after (leaf word p r) (f ∷ fs)) place raw s e = absurd s.1
word_from_last (after item fs) place raw s e = cc

pub deep_from_full : (ts : List Token) (square : Bool) → IsViable ts → IsFull ts → IsViableAtAnyDepth (ts ++ opening square ∷ []) × ¬ (IsViable (ts ++ opening square ∷ []))
deep_from_full ts square v h =
    let a = run_from_viable ts v in
    let (place, raw, fs, is) = word_from_last a.0 h.0 h.1 (sound-run 12 ts start a.0 tt a.1) (sym (unread_is ts a.0 a.1).0 ∙ h.2) in
    let e : run 12 start ts ≡ Some (worded place raw fs) = a.1 ∙ ap Some is in
    let count : length fs ≡ 12 = sym (ap length (unread_is ts (worded place raw fs) e).1 ∙ length-squares fs) ∙ h.3 in (
      deep_from_word ts place raw fs square e,
      not_viable_from_none ts (worded place raw fs) (opening square) e (none_from_full place raw fs square (omega arith)),
    )
