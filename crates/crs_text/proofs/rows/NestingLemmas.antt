-- The places of the delimiters that are open, token by token.
use Rattle.std.proofs.Common.{add-one, ◌≡◌, ℕ, zero, suc, ◌+◌, ◌-◌, ◌≤◌, ◌<◌, ◌≢◌, ◌⊎◌, inl, inr, min, Bool, true, false, Option, Some, None, List, [], ◌∷◌, ◌++◌, length, get_or, drop, refl, sym, ap, subst, ◌∙◌, append_assoc, arith, MatchOption, reverse, ◌↔◌, IsSome}
use Rattle.std.specs.Option.{option_to_list}
use Rattle.std.specs.List.{fold, prefix_len}
use Rattle.std.proofs.lemmas.List.{append-nil, length-drop, drop-drop, reverse-append}
use Rattle.std.proofs.lemmas.List.Sums.{fold-append, prefix_len-le-length}
use Rattle.crs_text.specs.Tokens.{StopsAt, Token, single, comma, opening, closing, opening_byte, is_white, Forms, Fronts, IsAfterWhite}
use Rattle.crs_text.specs.Tokens as tokens
use Rattle.crs_text.specs.Items.{Item, AreNode}
use Rattle.crs_text.specs.Items as items
use Rattle.crs_text.specs.Viable.{IsViable, open_after, opens, last_of, MayFollow}
use Rattle.crs_text.specs.TextFault.{IsFlaw, IsStop, RefusesText, SpellsNode}
use Rattle.crs_text.specs.declared.refusal.Reason.{Reason}
use Rattle.crs_text.specs.declared.refusal.Reason.TheVariants.{NotUtf8}
use Rattle.crs_text.specs.declared.items.ItemKind.{ItemKind}
use Rattle.crs_text.specs.Innermost.{IsClosed, IsInnermost}
use Rattle.crs_text.specs.inner.Nesting.{places_after, IsPassed, IsHalted, LeadsTo, IsAnswered}
use Rattle.crs_text.proofs.tokens.TokenLemmas.{Forms-one, flaw_no_token, fronts_dark, skip_white, front_token, front_none, fronts_more, forms_shorter}
use Rattle.crs_text.proofs.tokens.AllowedLemmas.{allows_from_viable, opens-item}
use Rattle.crs_text.proofs.tokens.ViableLemmas.{viable_front}
use Rattle.crs_text.proofs.tokens.ScanLemmas.{after_white, fronts_short, IsSingleAt}

-- the place of the innermost, if any is open
abbrev pub innermost_of : List ℕ → Option ℕ
innermost_of [] = None
innermost_of (last ∷ places) = Some last

-- these are the places of the delimiters that are open after these first tokens of the text
abbrev pub AreOpen : List ℕ → List ℕ → List Token → Type 0
AreOpen text [] ts = opens ts ≡ []
AreOpen text (place ∷ places) ts = (i : IsInnermost text ts place) × AreOpen text places i.outer

-- some of the tokens that lead to the place are passed, and more of them may come from here
pub record IsAhead (text : List ℕ) (at : ℕ) (ts before : List Token) (left : List ℕ) : Type 0 where
  pub more : List Token
  pub parts : before ≡ ts ++ more
  pub fronts : Fronts (length text) (drop at text) more left

-- these places are those of the delimiters that are open here,
-- no further on than the tokens that lead to the place
pub record IsNested (text : List ℕ) (place at : ℕ) (places : List ℕ) : Type 0 where
  pub tokens : List Token
  pub fronts : Fronts (length text) text tokens (drop at text)
  pub within : at ≤ length text
  pub open_places : AreOpen text places tokens
  pub ahead : (before : List Token) (left : List ℕ) → LeadsTo text place before left →
      IsAhead text at tokens before left

-- ---- the places, the last opened first

-- the last one comes off
pub popped : (old new : List ℕ) (last : Option ℕ) → old ≡ new ++ option_to_list last → (IsSome last ↔ (0 < length old)) →
    (drop 1 (reverse old) ≡ reverse new) × (innermost_of (reverse old) ≡ last)
popped [] new None e some = (ap reverse (e ∙ append-nil new), refl)
popped (p ∷ ps) new None e some = let h : false ≡ true = some.1 (omega arith) in absurd cc
popped old new (Some p) e some =
    let last : reverse old ≡ p ∷ reverse new = ap reverse e ∙ reverse-append new (p ∷ []) in
    (ap (drop 1) last, ap innermost_of last)

pub pushed : (old new : List ℕ) (at : ℕ) → new ≡ old ++ at ∷ [] → reverse new ≡ at ∷ reverse old
pushed old new at e = ap reverse e ∙ reverse-append old (at ∷ [])

-- ---- what is open

opens-append : (ts us : List Token) → opens (ts ++ us) ≡ fold open_after (opens ts) us
opens-append ts us = fold-append open_after [] ts us

-- the innermost is the last opened of those that are open
opens-innermost : (text : List ℕ) (ts : List Token) (place : ℕ) (i : IsInnermost text ts place) → opens ts ≡ i.square ∷ opens i.outer
opens-innermost text ts place i =
    ap opens i.parts ∙ opens-append i.outer (opening i.square ∷ i.inner) ∙ i.closed (i.square ∷ opens i.outer)

pub length-opens : (text places : List ℕ) (ts : List Token) → AreOpen text places ts → length (opens ts) ≡ length places
length-opens text [] ts a = ap length a
length-opens text (p ∷ ps) ts a =
    ap length (opens-innermost text ts p a.0) ∙ ap (λ n. suc n) (length-opens text ps a.0.outer a.1)

-- closed tokens that follow leave open what is
open_extend : (text places : List ℕ) (ts us : List Token) → AreOpen text places ts → IsClosed us → AreOpen text places (ts ++ us)
open_extend text [] ts us a c = rw (fold-append, a, c)
open_extend text (p ∷ ps) ts us a c = (
  record {
    outer = a.0.outer;
    inner = a.0.inner ++ us;
    square = a.0.square;
    parts = ap (λ z. z ++ us) a.0.parts ∙ append_assoc a.0.outer (opening a.0.square ∷ a.0.inner) us;
    fronts = a.0.fronts;
    stands = a.0.stands;
    closed = λ held. rw (fold-append, a.0.closed, c);
  },
  a.1,
)

-- one token more
open_next : (text places : List ℕ) (ts : List Token) (t : Token) (at : ℕ) (rest : List ℕ) → AreOpen text places ts → Fronts (length text) text ts (drop at text)
    → Forms (length text) t (drop at text) rest → AreOpen text (places_after at places t) (ts ++ t ∷ [])
open_next text places ts (single kind place raw) at rest a f g = open_extend text places ts (single kind place raw ∷ []) a (λ held. refl)
open_next text places ts comma at rest a f g = open_extend text places ts (comma ∷ []) a (λ held. refl)
open_next text places ts (opening square) at rest a f g = (
  record {
    outer = ts;
    inner = [];
    square = square;
    parts = refl;
    fronts = f;
    stands = g.spelled ∙ ap (λ (z : List ℕ). opening_byte square ∷ z) (sym (ap (drop 1) g.spelled) ∙ drop-drop 1 at text);
    closed = λ held. refl;
  },
  a,
)
open_next text [] ts (closing place square) at rest a f g = rw (fold-append, a)
open_next text (p ∷ ps) ts (closing place square) at rest a f g =
    let parts = ap (λ z. z ++ closing place square ∷ []) a.0.parts ∙ append_assoc a.0.outer (opening a.0.square ∷ a.0.inner) (closing place square ∷ []) in
    rw parts (open_extend text ps a.0.outer (opening a.0.square ∷ (a.0.inner ++ closing place square ∷ [])) a.1 (λ held. rw (fold-append open_after, a.0.closed)))

-- ---- one token

pub places-closing : (places : List ℕ) (at place : ℕ) (square : Bool) → drop 1 places ≡ places_after at places (closing place square)
places-closing [] at place square = refl
places-closing (p ∷ ps) at place square = refl

pub passed_single : (text : List ℕ) (at : ℕ) (places raw : List ℕ) (kind : ItemKind) (n : ℕ) → IsSingleAt text at kind raw n → IsPassed text at places places n
passed_single text at places raw kind n s = record { token = single s.of_kind at raw; forms = s.forms; places = refl; within = s.within }

-- ---- from place to place

-- inside 12 open delimiters no further one is opened
no_thirteenth : (last : Option Token) (held : List Bool) (square : Bool) → length held ≡ 12 → MayFollow last held (opening square) → ⊥
no_thirteenth last [] square e m = absurd (omega arith)
no_thirteenth (Some (single tokens.word place raw)) (h ∷ hs) square e m = elim m [ inl never ↦ never | inr lt ↦ absurd (omega (arith, lt.1, e)) ]
no_thirteenth last held square e m = m

pub nested_start : (text : List ℕ) (place at : ℕ) → at ≡ prefix_len is_white text → IsNested text place at []
nested_start text place at e =
    let w = after_white text at e in
    record {
      tokens = [];
      fronts = w;
      within = omega (arith, prefix_len-le-length is_white text, e);
      open_places = refl;
      ahead = λ before left l. record { more = before; parts = refl; fronts = skip_white (length text) before text (drop at text) left w l.fronts };
    }

module _ (text : List ℕ) (place at : ℕ) (places : List ℕ) (nested : IsNested text place at places) where
  -- the tokens that lead to the place end here, or one more of them comes
  next_token : (before : List Token) (left : List ℕ) → LeadsTo text place before left → ((before ≡ nested.tokens) × (drop at text ≡ left))
      ⊎ ((u : Token) × (us : List Token) × (rest : List ℕ) × (before ≡ nested.tokens ++ u ∷ us) × Forms (length text) u (drop at text) rest × Fronts (length text) rest us left)
  next_token before left l = let g = nested.ahead before left l in go g.more g.parts g.fronts
    where
      dark : StopsAt is_white (drop at text)
      dark = fronts_dark (length text) nested.tokens text (drop at text) nested.fronts

      go : (more : List Token) → before ≡ nested.tokens ++ more → Fronts (length text) (drop at text) more left → ((before ≡ nested.tokens) × (drop at text ≡ left))
          ⊎ ((u : Token) × (us : List Token) × (rest : List ℕ) × (before ≡ nested.tokens ++ u ∷ us) × Forms (length text) u (drop at text) rest × Fronts (length text) rest us left)
      go [] e f = inl (e ∙ append-nil nested.tokens, front_none (length text) (drop at text) left dark f)
      go (u ∷ us) e f = let n = front_token (length text) u us (drop at text) left dark f in inr (u, us, n.0, e, n.1, n.2)

  module _ (lt : at < place) (behind : List ℕ) (n w : ℕ) (p : IsPassed text at places behind n) (e : w ≡ prefix_len is_white (drop (at + n) text)) where
    white : IsAfterWhite (drop (at + n) text) (drop (at + n + w) text)
    white = subst (λ z. IsAfterWhite (drop (at + n) text) z) (drop-drop w (at + n) text) (after_white (drop (at + n) text) w e)

    ahead_next : (before : List Token) (left : List ℕ) → LeadsTo text place before left → IsAhead text (at + n + w) (nested.tokens ++ p.token ∷ []) before left
    ahead_next before left l = elim (next_token before left l) [
      | inl (e, same) ↦ absurd (elim l.flaw [
        | inl none ↦ omega (arith, ap length same, none, l.is_place, length-drop at text, nested.within)
        | inr flaw ↦ flaw_no_token NotUtf8 (length text) p.token (drop at text) (drop (at + n) text) l.skip (rw (← same) at flaw) p.forms
      ])
      | inr (u, us, rest, e, f, g) ↦
          let one = Forms-one (length text) u p.token (drop at text) rest (drop (at + n) text) f p.forms in
          record {
            more = us;
            parts = e ∙ ap (λ z. nested.tokens ++ z ∷ us) one.0 ∙ sym (append_assoc nested.tokens (p.token ∷ []) us);
            fronts = skip_white (length text) us (drop (at + n) text) (drop (at + n + w) text) left white (rw one.1 at g);
          }
    ]

    pub nested_next : IsNested text place (at + n + w) behind
    nested_next = record {
      tokens = nested.tokens ++ p.token ∷ [];
      fronts = fronts_more (length text) nested.tokens text (drop at text) (drop (at + n) text) (drop (at + n + w) text) p.token nested.fronts p.forms white;
      within = omega (arith, prefix_len-le-length is_white (drop (at + n) text), length-drop (at + n) text, p.within, e);
      open_places = subst (λ z. AreOpen text z (nested.tokens ++ p.token ∷ [])) (sym p.places) (open_next text places nested.tokens p.token at (drop (at + n) text) nested.open_places nested.fronts p.forms);
      ahead = ahead_next;
    }

  answered_at : (before : List Token) → before ≡ nested.tokens → MatchOption (innermost_of places) (opens before ≡ []) (IsInnermost text before)
  answered_at before e = rw e (go places nested.open_places)
    where
      go : (ps : List ℕ) → AreOpen text ps nested.tokens → MatchOption (innermost_of ps) (opens nested.tokens ≡ []) (IsInnermost text nested.tokens)
      go [] a = a
      go (p ∷ ps) a = a.0

  -- nothing goes on here with the tokens that lead to the place
  answered_here : ((before : List Token) (left rest : List ℕ) (u : Token) (us : List Token) → LeadsTo text place before left → before ≡ nested.tokens ++ u ∷ us
      → Forms (length text) u (drop at text) rest → Fronts (length text) rest us left → ⊥) → IsAnswered text place (innermost_of places)
  answered_here none before left l = elim (next_token before left l) [
    | inl (e, same) ↦ answered_at before e
    | inr (u, us, rest, e, f, g) ↦ absurd (none before left rest u us l e f g)
  ]

  pub answered_end : min place (length text) ≤ at → IsAnswered text place (innermost_of places)
  answered_end le = answered_here (λ before left rest u us l e f g.
      omega (arith, forms_shorter (length text) u (drop at text) rest f, fronts_short (length text) us rest left g, length-drop at text, l.is_place, nested.within, le))

  pub answered_halt : (behind : List ℕ) → IsHalted text at places behind → IsAnswered text place (innermost_of behind)
  answered_halt behind h = rw h.0 (answered_here (λ before left rest u us l e f g. elim h.1 [
    | inl (reason, skip, flaw) ↦ flaw_no_token reason (length text) u (drop at text) rest skip flaw f
    | inr (square, other, forms, full) ↦
        let same = (Forms-one (length text) u (opening square) (drop at text) rest other f forms).0 in
        let parts : before ≡ (nested.tokens ++ opening square ∷ []) ++ us = e ∙ ap (λ z. nested.tokens ++ z ∷ us) same ∙ sym (append_assoc nested.tokens (opening square ∷ []) us) in
        let v : IsViable (nested.tokens ++ opening square ∷ []) = viable_front (nested.tokens ++ opening square ∷ []) us (subst IsViable parts l.viable) in
        no_thirteenth (last_of nested.tokens) (opens nested.tokens) square (length-opens text places nested.tokens nested.open_places ∙ full)
        (allows_from_viable nested.tokens (opening square) (viable_front nested.tokens (opening square ∷ []) v) v)
  ]))

-- ---- what leads to the place

pub leads_from_refusal : (text : List ℕ) (n place : ℕ) (r : RefusesText text n place) → LeadsTo text place r.before r.left
leads_from_refusal text n place r =
    record { fronts = r.fronts; viable = r.viable; skip = r.skip; is_place = r.is_place; flaw = go r.reason r.stop }
  where
    go : (reason : Reason) → IsStop reason (length text) r.before r.left r.skip → (r.skip ≡ 0) ⊎ IsFlaw NotUtf8 r.left r.skip
    go NotUtf8 s = inr s
    go reason s = inl (omega arith)

pub leads_from_node : (text : List ℕ) (item : Item) (place : ℕ) (s : SpellsNode text item) → place ≡ length text → LeadsTo text place s.0 []
leads_from_node text item place s e = record {
  fronts = s.1;
  viable = ([], item, subst (AreNode item) (sym (append-nil s.0)) s.2);
  skip = 0;
  is_place = omega (arith, e);
  flaw = inl refl;
}

-- after a node nothing is open
pub none_open : (text : List ℕ) (item : Item) (place : ℕ) (answer : Option ℕ) → SpellsNode text item → place ≡ length text → IsAnswered text place answer → answer ≡ None
none_open text item place answer s e a = go answer (a s.0 [] (leads_from_node text item place s e))
  where
    closed : opens s.0 ≡ []
    closed = ap opens s.2.are ∙ ap opens (sym (append-nil (items.tokens item))) ∙ opens-item item [] []

    go : (o : Option ℕ) → MatchOption o (opens s.0 ≡ []) (IsInnermost text s.0) → o ≡ None
    go None m = refl
    go (Some q) m = let no = sym (opens-innermost text s.0 q m) ∙ closed in absurd cc
