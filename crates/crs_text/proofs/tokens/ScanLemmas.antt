-- One token more, or the reason why nothing goes on.
use Rattle.std.proofs.Common.{◌≡◌, ℕ, suc, ◌+◌, ◌≤◌, ◌<◌, Bool, true, false, List, [], ◌∷◌, ◌++◌, length, take, drop, Option, Some, None, refl, sym, ap, subst, ◌∙◌, arith}
use Rattle.std.proofs.lemmas.List.{length-drop, length-append, drop-drop, drop_all, take-append-drop}
use Rattle.std.specs.List.{prefix_len}
use Rattle.std.proofs.lemmas.List.Sums.{prefix_len-le-length}
use Rattle.crs_text.specs.Tokens as tokens
use Rattle.crs_text.specs.Tokens.{Kind, Token, single, comma, opening, closing, opening_byte, closing_byte, is_white, Forms, Fronts, IsAfterWhite}
use Rattle.crs_text.specs.Items.{Item}
use Rattle.crs_text.specs.TextFault.{reason_number, IsFlaw, IsTooDeep, IsStop, IsTextFault, RefusesText, SpellsNode}
use Rattle.crs_text.specs.inner.Table.{Flat, item_kind, flat_single, flat_step, with_leaf, IsStep, IsOpened, IsNodeBegun, is_whole, Shows, flat}
use Rattle.crs_text.specs.inner.State.{start, after}
use Rattle.crs_text.specs.inner.Lexing.{IsLexed, StandsBefore}
use Rattle.crs_text.specs.Refusal.{RefusedAt}
use Rattle.crs_text.specs.inner.Scan.{IsReached, IsPassed, IsTaken, IsStopped, IsStoppedBy}
use Rattle.crs_text.specs.declared.fault.Fault.{Fault}
use Rattle.crs_text.specs.declared.fault.Fault.TheVariants as faults
use Rattle.crs_text.specs.declared.refusal.Reason.{Reason}
use Rattle.crs_text.specs.declared.refusal.Reason.TheVariants.{BadCharacter, NotUtf8, Unexpected, UnexpectedEnd, TooDeep}
use Rattle.crs_text.specs.declared.items.ItemKind.{ItemKind}
use Rattle.crs_text.specs.declared.items.ItemKind.TheVariants as kinds
use Rattle.crs_text.specs.declared.lexing.Lexed.TheVariants as lexed
use Rattle.crs_text.specs.declared.table.Opened.TheVariants as opened
use Rattle.crs_text.proofs.tokens.LexedLemmas.{prefix_taken, prefix_ends}
use Rattle.crs_text.proofs.rows.FlatLemmas.{word_begun, delimiter_begun}
use Rattle.crs_text.proofs.tokens.TokenLemmas.{fronts_more, forms_shorter}
use Rattle.crs_text.proofs.rows.ShowsLemmas.{shows_start, viable_from_shows, shows_more, not_viable_from_shows, deep_from_shows, none_from_deep, whole_from_shows, not_whole_from_shows}

-- a single token of this kind is here, with these raw bytes and as many bytes in all as `size` says
pub record IsSingleAt (text : List ℕ) (at : ℕ) (kind : ItemKind) (raw : List ℕ)
    (size : ℕ) : Type 0 where
  pub of_kind : Kind
  pub is_kind : kind ≡ item_kind of_kind
  pub forms : Forms (length text) (single of_kind at raw) (drop at text) (drop (at + size) text)
  pub within : at + size ≤ length text

-- ---- why nothing goes on

pub stop_flaw : (reason : Reason) (total : ℕ) (ts : List Token) (left : List ℕ) (skip : ℕ) → IsFlaw reason left skip → IsStop reason total ts left skip
stop_flaw Unexpected total ts left skip f = absurd f
stop_flaw UnexpectedEnd total ts left skip f = absurd f
stop_flaw TooDeep total ts left skip f = absurd f
stop_flaw r total ts left skip f = f

module _ (text : List ℕ) (at : ℕ) (table : Flat) (r : RefusedAt) (is_place : r.place ≡ at) where
  stopped : (reason : Reason) → r.number ≡ reason_number reason → ((ts : List Token) → Shows ts table → IsStop reason (length text) ts (drop at text) 0) → IsStopped text at table r
  stopped reason n stop = record { reason = reason; skip = 0; is_number = n; is_place = omega (arith, is_place); stop = stop }

  -- a token that isn't taken, and isn't one too many
  pub stopped_token : (t : Token) (rest : List ℕ) → r.number ≡ reason_number Unexpected → Forms (length text) t (drop at text) rest → flat_step table t ≡ None
      → ((ts : List Token) → Shows ts table → ¬ (IsTooDeep ts t)) → IsStopped text at table r
  stopped_token t rest n f none few =
      stopped Unexpected n (λ ts shows. (t, rest, f, not_viable_from_shows ts table t shows none, few ts shows, refl))

  pub stopped_too_deep : (square : Bool) (behind : Flat) (rest : List ℕ) → r.number ≡ reason_number TooDeep → Forms (length text) (opening square) (drop at text) rest → IsOpened table square opened.TooDeep behind → IsStopped text at table r
  stopped_too_deep square behind rest n f deep =
      stopped TooDeep n (λ ts shows.
      let not = not_viable_from_shows ts table (opening square) shows (none_from_deep table behind square deep) in
      (opening square, rest, f, (deep_from_shows ts table square shows deep.0, not), refl))

-- ---- the tokens at a place

placed : (text : List ℕ) (at : ℕ) → at ≤ length text → at + length (drop at text) ≡ length text
placed text at le = omega (arith, length-drop at text)

module _ (text : List ℕ) (at : ℕ) (lt : at < length text) where
  further : (n : ℕ) → drop n (drop at text) ≡ drop (at + n) text
  further n = drop-drop n at text

  single_at : (kind : Kind) (raw : List ℕ) (n : ℕ) → StandsBefore kind raw (drop at text) (drop n (drop at text)) → Forms (length text) (single kind at raw) (drop at text) (drop (at + n) text)
  single_at kind raw n s =
      subst (λ z. Forms (length text) (single kind at raw) (drop at text) z) (further n)
      (record { spelled = s.spelled; formed = s.formed; ends = s.ends; placed = placed text at (omega arith) })

  single_found : (kind : Kind) (raw : List ℕ) (n : ℕ) → StandsBefore kind raw (drop at text) (drop n (drop at text)) → n ≤ length (drop at text) → IsSingleAt text at (item_kind kind) raw n
  single_found kind raw n s le = record { of_kind = kind; is_kind = refl; forms = single_at kind raw n s; within = omega (arith, le, length-drop at text) }

  pub number_at : (n : ℕ) → IsLexed (drop at text) (lexed.Number n) → IsSingleAt text at kinds.Number (take n (drop at text)) n
  number_at n l = single_found tokens.number (take n (drop at text)) n l.0 l.1

  pub word_at : (n : ℕ) → IsLexed (drop at text) (lexed.Word n) → IsSingleAt text at kinds.Word (take n (drop at text)) n
  word_at n l = single_found tokens.word (take n (drop at text)) n l.0 l.1

  pub text_at : (n : ℕ) → IsLexed (drop at text) (lexed.Text n) → IsSingleAt text at kinds.Text (take n (drop 1 (drop at text))) (n + 2)
  text_at n l = single_found tokens.text (take n (drop 1 (drop at text))) (n + 2) l.0 l.1

  pub comma_at : IsLexed (drop at text) lexed.Comma → Forms (length text) comma (drop at text) (drop (at + 1) text)
  comma_at l = record { spelled = l ∙ ap (λ (z : List ℕ). 44 ∷ z) (further 1); formed = tt; ends = tt; placed = tt }

  pub opening_at : (square : Bool) → IsLexed (drop at text) (lexed.Opening square) → Forms (length text) (opening square) (drop at text) (drop (at + 1) text)
  opening_at square l = record { spelled = l ∙ ap (λ (z : List ℕ). opening_byte square ∷ z) (further 1); formed = tt; ends = tt; placed = tt }

  pub closing_at : (square : Bool) → IsLexed (drop at text) (lexed.Closing square) → Forms (length text) (closing at square) (drop at text) (drop (at + 1) text)
  closing_at square l = record { spelled = l ∙ ap (λ (z : List ℕ). closing_byte square ∷ z) (further 1); formed = tt; ends = tt; placed = placed text at (omega arith) }

-- ---- from place to place

pub after_white : (bytes : List ℕ) (n : ℕ) → n ≡ prefix_len is_white bytes → IsAfterWhite bytes (drop n bytes)
after_white bytes n e =
    subst (λ z. IsAfterWhite bytes (drop z bytes)) (sym e)
    (record { white = take (prefix_len is_white bytes) bytes; parts = sym (take-append-drop (prefix_len is_white bytes) bytes); blank = prefix_taken is_white bytes; ends = prefix_ends is_white bytes })

pub reached_first : (text : List ℕ) (at : ℕ) → at ≡ prefix_len is_white text → (table : Flat) → table ≡ flat start → IsReached text table at
reached_first text at e table t = record {
  tokens = [];
  shows = subst (Shows []) (sym t) shows_start;
  fronts = after_white text at e;
  within = omega (arith, prefix_len-le-length is_white text, e);
}

pub reached_next : (text : List ℕ) (at n w : ℕ) (before behind : Flat) → IsReached text before at → IsTaken text at before behind n → w ≡ prefix_len is_white (drop (at + n) text) → IsReached text behind (at + n + w)
reached_next text at n w before behind r t e = record {
  tokens = r.tokens ++ t.token ∷ [];
  shows = shows_more r.tokens before behind t.token r.shows t.step;
  fronts = fronts_more (length text) r.tokens text (drop at text) (drop (at + n) text) (drop (at + n + w) text) t.token r.fronts t.forms
      (subst (λ z. IsAfterWhite (drop (at + n) text) z) (drop-drop w (at + n) text) (after_white (drop (at + n) text) w e));
  within = omega (arith, prefix_len-le-length is_white (drop (at + n) text), length-drop (at + n) text, t.within, e);
}

-- a token that was taken is passed
pub passed_next : (text : List ℕ) (at n : ℕ) (before behind : Flat) → IsReached text before at → IsTaken text at before behind n → IsPassed text behind (at + n)
passed_next text at n before behind r t =
    (reached_next text at n (prefix_len is_white (drop (at + n) text)) before behind r t refl, t.within)

-- a token that comes right behind it is passed too
pub passed_on : (text : List ℕ) (at n : ℕ) (before behind : Flat) → IsPassed text before at → prefix_len is_white (drop at text) ≡ 0 → IsTaken text at before behind n → IsPassed text behind (at + n)
passed_on text at n before behind p none t =
    let e : at + prefix_len is_white (drop at text) ≡ at = omega (arith, none) in
    passed_next text at n before behind (subst (IsReached text before) e p.0) t

-- a word and the square delimiter right behind it are passed
pub passed_node : (text : List ℕ) (at n : ℕ) (before behind : Flat) → at + n < length text → IsReached text before at → IsLexed (drop at text) (lexed.Word n)
    → Forms (length text) (opening true) (drop (at + n) text) (drop (at + n + 1) text) → IsNodeBegun before at (take n (drop at text)) behind → IsPassed text behind (at + n + 1)
passed_node text at n before behind lt reached word bracket begun =
    let raw = take n (drop at text) in
    let between = with_leaf before kinds.Word at raw in
    let named : IsTaken text at before between n = record {
      token = single tokens.word at raw;
      forms = single_at text at (omega arith) tokens.word raw n word.0;
      step = word_begun before behind at raw begun;
      within = omega arith;
    } in
    let opened : IsTaken text (at + n) between behind 1 = record { token = opening true; forms = bracket; step = delimiter_begun before behind at raw begun; within = omega arith } in
    passed_on text (at + n) 1 between behind (passed_next text at n before between reached named) (ap (prefix_len is_white) bracket.spelled) opened

pub refused_at : (text : List ℕ) (at : ℕ) (table : Flat) (r : RefusedAt) → IsReached text table at → IsStopped text at table r → RefusesText text r.number r.place
refused_at text at table r reached s = record {
  reason = s.reason;
  before = reached.tokens;
  left = drop at text;
  skip = s.skip;
  fronts = reached.fronts;
  viable = viable_from_shows reached.tokens table reached.shows;
  stop = s.stop reached.tokens reached.shows;
  is_number = s.is_number;
  is_place = omega (arith, length-drop at text, reached.within, s.is_place);
}

pub refused_end : (text : List ℕ) (at : ℕ) (table : Flat) (r : RefusedAt) → IsReached text table at → length text ≤ at → is_whole table ≡ false → r.number ≡ reason_number UnexpectedEnd → r.place ≡ length text → RefusesText text r.number r.place
refused_end text at table r reached le whole n p =
    refused_at text at table r reached
    (stopped text at table r (omega (arith, p, le, reached.within)) UnexpectedEnd n (λ ts shows. (drop_all at text le, not_whole_from_shows ts table shows whole, refl)))

pub spelled_whole : (text : List ℕ) (at : ℕ) (table : Flat) → IsReached text table at → length text ≤ at → is_whole table ≡ true → (item : Item) × SpellsNode text item × (table ≡ flat (after item []))
spelled_whole text at table reached le whole =
    let w = whole_from_shows reached.tokens table reached.shows whole in
    (w.0, (reached.tokens, subst (λ z. Fronts (length text) text reached.tokens z) (drop_all at text le) reached.fronts, w.1), w.2)

pub was_taken : (o : Option Flat) (taken : Bool) (before behind : Flat) → IsStep o taken before behind → taken ≡ true → o ≡ Some behind
was_taken None taken before behind s e = let h : false ≡ true = sym s.0 ∙ e in absurd cc
was_taken (Some next) taken before behind s e = ap Some (sym s.1)

pub not_taken : (o : Option Flat) (taken : Bool) (before behind : Flat) → IsStep o taken before behind → taken ≡ false → o ≡ None
not_taken None taken before behind s e = refl
not_taken (Some next) taken before behind s e = let h : true ≡ false = sym s.0 ∙ e in absurd cc

-- a token that the table was asked for is taken, or nothing goes on with it
module _ (text : List ℕ) (at n : ℕ) (before behind : Flat) (taken : Bool) where
  pub taken_by : (t : Token) → at + n ≤ length text → Forms (length text) t (drop at text) (drop (at + n) text) → IsStep (flat_step before t) taken before behind → taken ≡ true
      → IsTaken text at before behind n
  taken_by t within f s e = record { token = t; forms = f; step = was_taken _ taken before behind s e; within = within }

  pub stopped_by : (t : Token) (r : RefusedAt) → r.place ≡ at → r.number ≡ reason_number Unexpected → Forms (length text) t (drop at text) (drop (at + n) text) → IsStep (flat_step before t) taken before behind → taken ≡ false
      → ((ts : List Token) → Shows ts before → ¬ (IsTooDeep ts t)) → IsStopped text at before r
  stopped_by t r p k f s e few = stopped_token text at before r p t _ k f (not_taken _ taken before behind s e) few

  module _ (kind : ItemKind) (raw : List ℕ) (single_here : IsSingleAt text at kind raw n) (s : IsStep (flat_single before kind at raw) taken before behind) where
    of_single : IsStep (flat_step before (single single_here.of_kind at raw)) taken before behind
    of_single = subst (λ z. IsStep (flat_single before z at raw) taken before behind) single_here.is_kind s

    pub single_taken : taken ≡ true → IsTaken text at before behind n
    single_taken e = taken_by (single single_here.of_kind at raw) single_here.within single_here.forms of_single e

    pub single_stopped : (r : RefusedAt) → r.place ≡ at → r.number ≡ reason_number Unexpected → taken ≡ false → IsStopped text at before r
    single_stopped r p k e = stopped_by (single single_here.of_kind at raw) r p k single_here.forms of_single e (λ ts shows deep. deep)

-- a flaw lies within what is left
pub flaw_within : (r : Reason) (left : List ℕ) (skip : ℕ) → IsFlaw r left skip → skip ≤ length left
flaw_within NotUtf8 left skip f = let l : length left ≡ suc (length f.0) = ap length f.2 in let w : f.5 ≤ length f.0 = f.6.within in omega (arith, f.7)
flaw_within r left skip f = grind arith

pub taken_some : (text : List ℕ) (at n : ℕ) (before behind : Flat) → IsTaken text at before behind n → 0 < n
taken_some text at n before behind t =
    omega (arith, forms_shorter (length text) t.token (drop at text) (drop (at + n) text) t.forms, length-drop at text, length-drop (at + n) text)

pub fault_of_stop : (bytes : List ℕ) (at : ℕ) (table : Flat) (fault : Fault) → IsReached bytes table at → IsStoppedBy bytes at table fault → IsTextFault bytes fault
fault_of_stop bytes at table (faults.Refused r) reached s = refused_at bytes at table r reached s
fault_of_stop bytes at table (faults.Memory e) reached s = tt

-- what is left after tokens is no longer than the bytes
pub fronts_short : (total : ℕ) (ts : List Token) (bytes left : List ℕ) → Fronts total bytes ts left → length left ≤ length bytes
fronts_short total [] bytes left p = omega (arith, ap length p.parts, length-append p.white left)
fronts_short total (t ∷ ts) bytes left p =
    omega (arith, fronts_short total ts p.1 left p.4, forms_shorter total t p.0 p.1 p.3, ap length p.2.parts, length-append p.2.white p.0)

-- where it stops lies within what is left
stop_within : (r : Reason) (total : ℕ) (ts : List Token) (left : List ℕ) (skip : ℕ) → IsStop r total ts left skip → skip ≤ length left
stop_within NotUtf8 total ts left skip s = flaw_within NotUtf8 left skip s
stop_within r total ts left skip s = omega arith

number_range : (r : Reason) → (1 ≤ reason_number r) × (reason_number r ≤ 8)
number_range BadCharacter = (omega arith, omega arith)
number_range r = (omega arith, omega arith)

pub refusal_within : (bytes : List ℕ) (n place : ℕ) → RefusesText bytes n place → (1 ≤ n) × (n ≤ 8) × (place ≤ length bytes)
refusal_within bytes n place r =
    let number = number_range r.reason in
    (omega arith, omega arith, omega (arith, stop_within r.reason (length bytes) r.before r.left r.skip r.stop, fronts_short (length bytes) r.before bytes r.left r.fronts))
