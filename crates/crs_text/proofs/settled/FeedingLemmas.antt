-- One settled token more, or the settled reason why nothing goes on, or nothing settled; and what stays pending.
use Rattle.std.proofs.Common.{◌≡◌, ℕ, ◌+◌, ◌-◌, ◌≤◌, ◌<◌, Bool, true, false, List, [], ◌∷◌, ◌++◌, length, take, drop, Option, Some, None, refl, sym, ap, subst, ◌∙◌, append_assoc, arith, inl, inr, ◌≢◌, IsUtf8, MatchBool}
use Rattle.std.proofs.lemmas.List.{append-nil, length-append, length-drop, drop_all, drop-drop, take_all, take-append-drop, take-append-le, drop-append-le}
use Rattle.std.proofs.Math.Seq.{take-add}
use Rattle.std.proofs.lemmas.Str.{IsUtf8-append}
use Rattle.std.specs.List.{list_all, prefix_len}
use Rattle.std.proofs.lemmas.List.Folds.{list_all-append, list_all_at}
use Rattle.std.proofs.lemmas.List.Sums.{prefix_len-le-length, prefix_len_stops}
use Rattle.std.proofs.lemmas.Bool.{and_parts}
use Rattle.crs_decimal.specs.inner.Prelude.{is_run_byte, is_run_start}
use Rattle.crs_text.specs.Tokens as tokens
use Rattle.crs_text.specs.Tokens.{Kind, number, word, Token, single, comma, opening, closing, is_white, is_letter, is_word_byte, IsWord, Forms, IsAfterWhite, StopsAt, BeginsWith, doubled, IsInside, IsShut, IsUtf8Front}
use Rattle.crs_text.specs.inner.Lexing.{IsShutAt, IsValidTo, IsLexed}
use Rattle.crs_text.specs.TextFault.{IsFlaw, IsStop, IsTextFault, IsSettled, FormsSettled, SettledFronts, IsRunSettled, IsSettledStop, IsTakenSoFar}
use Rattle.crs_text.specs.inner.Feeding.{IsFlawSettled, IsLexedSettled, IsUnsettled, IsSettledTo, IsUnsettledAt, IsSettledFault, IsPendingIn, IsPendingBefore, StaysPending, IsUnsettledIn, IsInsideTo, IsOpenTo, IsFedTo, IsFed, IsRefusalOf}
use Rattle.crs_text.specs.declared.feeding.Held.{Held}
use Rattle.crs_text.specs.declared.feeding.Pending.{Pending}
use Rattle.crs_text.specs.declared.feeding.Pending.TheVariants as pending
use Rattle.crs_text.specs.inner.Table.{Shows, flat, Flat}
use Rattle.crs_text.specs.inner.State.{start}
use Rattle.crs_text.specs.Refusal.{RefusedAt}
use Rattle.crs_text.specs.inner.Scan.{IsReached, IsTaken, IsStoppedBy}
use Rattle.crs_text.specs.declared.fault.Fault.{Fault}
use Rattle.crs_text.specs.declared.fault.Fault.TheVariants as faults
use Rattle.crs_text.specs.declared.refusal.Reason.{Reason}
use Rattle.crs_text.specs.declared.refusal.Reason.TheVariants.{BadCharacter, BadNumber, NumberRange, NotUtf8, OpenText, Unexpected, UnexpectedEnd, TooDeep}
use Rattle.crs_text.specs.declared.items.ItemKind.{ItemKind}
use Rattle.crs_text.specs.declared.lexing.Lexed.{Lexed}
use Rattle.crs_text.specs.declared.lexing.Lexed.TheVariants as lexed
use Rattle.crs_text.proofs.tokens.TokenLemmas.{a_single, shape_of, shape_at, shape_at_start, Forms-shape, Forms-shut, Forms-one, some_shape, shape_for, flaw_shape, flaw_no_token, flaw_one, forms_some, at_once, dark_start, dark_word}
use Rattle.crs_text.proofs.tokens.QuotedLemmas.{doubled-append, true_not_false, same_tail, same_split, shut_one, shut_not_open}
use Rattle.crs_text.proofs.tokens.Utf8Lemmas.{IsUtf8Front-shorter}
use Rattle.crs_text.proofs.rows.ShowsLemmas.{shows_start, viable_from_shows, shows_more}
use Rattle.crs_text.proofs.tokens.ScanLemmas.{reached_first, number_at, word_at, text_at, comma_at, opening_at, closing_at, after_white, IsSingleAt}
use Rattle.crs_text.proofs.settled.StayLemmas.{refuses_from_settled, fronts_from_settled, stop_some, through_front, all_append, fronts_longer, taken_so_far}
use Rattle.crs_text.proofs.tokens.LexedLemmas.{prefix_taken, quote_behind}

-- ---- runs

all_short : (test : ℕ → Bool) (xs : List ℕ) → prefix_len test xs < length xs → list_all test xs ≡ false
all_short test xs lt = list_all_at test xs (prefix_len test xs) 0 lt (prefix_len_stops test xs 0 lt)

pub all_full : (test : ℕ → Bool) (xs : List ℕ) → length xs ≤ prefix_len test xs → list_all test xs ≡ true
all_full test xs le = ap (list_all test) (sym (take_all (prefix_len test xs) xs le)) ∙ prefix_taken test xs

abbrev pub RunRules : Type 0
RunRules =
    ((left : List ℕ) → prefix_len is_run_byte left < length left → IsRunSettled left)
    × ((left : List ℕ) → length left ≤ prefix_len is_run_byte left → ¬ (IsRunSettled left))

pub run_rules : RunRules
run_rules = (all_short is_run_byte, λ left le s. let e = all_full is_run_byte left le in cc)

-- ---- what is settled in front of what is left

-- whatever begins what is left is settled
pub record AllSettled (total : ℕ) (left : List ℕ) : Type 0 where
  pub token : (t : Token) (rest : List ℕ) → Forms total t left rest → IsSettled t rest
  pub flaw : (r : Reason) (k : ℕ) → IsFlaw r left k → IsFlawSettled r left

module _ (total : ℕ) (left : List ℕ) where
  pub token_all : (t : Token) (rest : List ℕ) → Forms total t left rest → IsSettled t rest → AllSettled total left
  token_all t rest f s = record {
    token = λ u tail g. let e = Forms-one total t u left rest tail f g in subst (λ z. IsSettled z tail) e.0 (subst (IsSettled t) e.1 s);
    flaw = λ r k g. absurd (flaw_no_token r total t left rest k g f);
  }

  pub flaw_all : (r : Reason) (k : ℕ) → IsFlaw r left k → IsFlawSettled r left → AllSettled total left
  flaw_all r k f s = record {
    token = λ u tail g. absurd (flaw_no_token r total u left tail k f g);
    flaw = λ q m g. subst (λ z. IsFlawSettled z left) (flaw_one r q left k m f g).0 s;
  }

  -- a stop there is settled
  pub settled_stop : (r : Reason) (ts : List Token) (k : ℕ) → AllSettled total left → left ≢ [] → IsStop r total ts left k → IsSettledStop r total ts left k
  settled_stop BadCharacter ts k all some s = s
  settled_stop BadNumber ts k all some s = (s, all.flaw BadNumber k s)
  settled_stop NumberRange ts k all some s = (s, all.flaw NumberRange k s)
  settled_stop NotUtf8 ts k all some s = s
  settled_stop OpenText ts k all some s = all.flaw OpenText k s
  settled_stop Unexpected ts k all some s = (s.0, s.1, record { forms = s.2; settled = all.token s.0 s.1 s.2 }, s.3, s.4, s.5)
  settled_stop UnexpectedEnd ts k all some s = absurd (some s.0)
  settled_stop TooDeep ts k all some s = (s.0, s.1, record { forms = s.2; settled = all.token s.0 s.1 s.2 }, s.3, s.4)

  -- ---- what isn't

  no_stop_without : (ts : List Token) → ((t : Token) (rest : List ℕ) → ¬ (FormsSettled total t left rest)) → ((r : Reason) (k : ℕ) → IsFlaw r left k → ¬ (IsFlawSettled r left))
      → (r : Reason) (k : ℕ) → ¬ (IsSettledStop r total ts left k)
  no_stop_without ts none flaw BadCharacter k s = flaw BadCharacter k s tt
  no_stop_without ts none flaw BadNumber k s = flaw BadNumber k s.0 s.1
  no_stop_without ts none flaw NumberRange k s = flaw NumberRange k s.0 s.1
  no_stop_without ts none flaw NotUtf8 k s = flaw NotUtf8 k s tt
  no_stop_without ts none flaw Unexpected k s = none s.0 s.1 s.2
  no_stop_without ts none flaw TooDeep k s = none s.0 s.1 s.2
  no_stop_without ts none flaw r k s = s

  pub held_without : (ts : List Token) → ((t : Token) (rest : List ℕ) → ¬ (FormsSettled total t left rest)) → ((r : Reason) (k : ℕ) → IsFlaw r left k → ¬ (IsFlawSettled r left)) → IsUnsettled total ts left
  held_without ts none flaw = record { no_token = none; no_stop = no_stop_without ts none flaw }

  pub token_held : (ts : List Token) (t : Token) (rest : List ℕ) → Forms total t left rest → ¬ (IsSettled t rest) → IsUnsettled total ts left
  token_held ts t rest f not =
      held_without ts (λ u tail g. let e = Forms-one total u t left tail rest g.forms f in not (subst (λ z. IsSettled z rest) e.0 (subst (IsSettled u) e.1 g.settled)))
      (λ r k g. absurd (flaw_no_token r total t left rest k g f))

  pub flaw_held : (ts : List Token) (r : Reason) (k : ℕ) → IsFlaw r left k → ¬ (IsFlawSettled r left) → IsUnsettled total ts left
  flaw_held ts r k f not =
      held_without ts (λ u tail g. flaw_no_token r total u left tail k f g.forms)
      (λ q m g s. not (subst (λ z. IsFlawSettled z left) (flaw_one q r left m k g f).0 s))

-- ---- at a place of a text

module _ (text : List ℕ) (at : ℕ) (lt : at < length text) where
  left_some : drop at text ≢ []
  left_some e = let l : length (drop at text) ≡ 0 = ap length e in absurd (omega (arith, length-drop at text))

  rest_some : (n : ℕ) → n < length (drop at text) → drop (at + n) text ≢ []
  rest_some n less e = let l : length (drop (at + n) text) ≡ 0 = ap length e in absurd (omega (arith, length-drop (at + n) text, length-drop at text))

  rest_none : (n : ℕ) → ¬ (n < length (drop at text)) → drop (at + n) text ≡ []
  rest_none n not = drop_all (at + n) text (omega (arith, length-drop at text))

  judged_single : (kind : ItemKind) (raw : List ℕ) (n : ℕ) (settled : Bool) → IsSingleAt text at kind raw n → MatchBool settled (n < length (drop at text)) (¬ (n < length (drop at text)))
      → MatchBool settled (AllSettled (length text) (drop at text)) (IsUnsettledAt text at)
  judged_single kind raw n true a s = token_all (length text) (drop at text) (single a.of_kind at raw) (drop (at + n) text) a.forms (rest_some n s)
  judged_single kind raw n false a s = λ ts. token_held (length text) (drop at text) ts (single a.of_kind at raw) (drop (at + n) text) a.forms (λ some. some (rest_none n s))

  judged_here : (l : Lexed) (settled : Bool) → IsLexed (drop at text) l → MatchBool settled (IsLexedSettled (drop at text) l) (¬ (IsLexedSettled (drop at text) l))
      → MatchBool settled (AllSettled (length text) (drop at text)) (IsUnsettledAt text at)
  judged_here (lexed.Number n) settled l s = judged_single _ _ n settled (number_at text at lt n l) s
  judged_here (lexed.Text n) settled l s = judged_single _ _ (n + 2) settled (text_at text at lt n l) s
  judged_here (lexed.Word n) settled l s = judged_single _ _ n settled (word_at text at lt n l) s
  judged_here lexed.Comma true l s = token_all (length text) (drop at text) comma (drop (at + 1) text) (comma_at text at lt l) tt
  judged_here (lexed.Opening square) true l s = token_all (length text) (drop at text) (opening square) (drop (at + 1) text) (opening_at text at lt square l) tt
  judged_here (lexed.Closing square) true l s = token_all (length text) (drop at text) (closing at square) (drop (at + 1) text) (closing_at text at lt square l) tt
  judged_here (lexed.Flaw r k) true l s = flaw_all (length text) (drop at text) r k l s
  judged_here (lexed.Flaw r k) false l s = λ ts. flaw_held (length text) (drop at text) ts r k l s
  judged_here k false l s = absurd (s tt)

  -- the judgement on a token holds of what is left
  pub judged : (left : List ℕ) (l : Lexed) (settled : Bool) → left ≡ drop at text → IsLexed left l → MatchBool settled (IsLexedSettled left l) (¬ (IsLexedSettled left l))
      → MatchBool settled (AllSettled (length text) (drop at text)) (IsUnsettledAt text at)
  judged left l settled e is s = judged_here l settled (rw e at is) (rw e at s)

  pub settled_fault : (table : Flat) (fault : Fault) → AllSettled (length text) (drop at text) → IsSettledTo text table at → IsStoppedBy text at table fault → IsSettledFault text fault
  settled_fault table (faults.Refused r) all reached s = record {
    reason = s.reason;
    before = reached.tokens;
    left = drop at text;
    skip = s.skip;
    fronts = reached.fronts;
    viable = viable_from_shows reached.tokens table reached.shows;
    stop = settled_stop (length text) (drop at text) s.reason reached.tokens s.skip all left_some (s.stop reached.tokens reached.shows);
    is_number = s.is_number;
    is_place = omega (arith, length-drop at text, reached.within, s.is_place);
  }
  settled_fault table (faults.Memory e) all reached s = tt

pub fronts_more : (total : ℕ) (ts : List Token) (bytes at rest left : List ℕ) (t : Token) → SettledFronts total bytes ts at → FormsSettled total t at rest → IsAfterWhite rest left → SettledFronts total bytes (ts ++ t ∷ []) left
fronts_more total [] bytes at rest left t p f w = (at, rest, p, f, w)
fronts_more total (u ∷ us) bytes at rest left t p f w = (p.0, p.1, p.2, p.3, fronts_more total us p.1 at rest left t p.4 f w)

pub settled_next : (text : List ℕ) (at n w : ℕ) (before behind : Flat) → AllSettled (length text) (drop at text) → IsSettledTo text before at → IsTaken text at before behind n
    → w ≡ prefix_len is_white (drop (at + n) text) → IsSettledTo text behind (at + n + w)
settled_next text at n w before behind all r t e = record {
  tokens = r.tokens ++ t.token ∷ [];
  shows = shows_more r.tokens before behind t.token r.shows t.step;
  fronts = fronts_more (length text) r.tokens text (drop at text) (drop (at + n) text) (drop (at + n + w) text) t.token r.fronts
      (record { forms = t.forms; settled = all.token t.token (drop (at + n) text) t.forms })
      (subst (λ z. IsAfterWhite (drop (at + n) text) z) (drop-drop w (at + n) text) (after_white (drop (at + n) text) w e));
  within = omega (arith, prefix_len-le-length is_white (drop (at + n) text), length-drop (at + n) text, t.within, e);
}

pub reached_from_settled : (text : List ℕ) (table : Flat) (at : ℕ) → IsSettledTo text table at → IsReached text table at
reached_from_settled text table at r = record {
  tokens = r.tokens;
  shows = r.shows;
  fronts = fronts_from_settled (length text) r.tokens text (drop at text) r.fronts;
  within = r.within;
}

-- at the end of the text nothing is settled
pub nothing_held : (total : ℕ) (ts : List Token) (left : List ℕ) → left ≡ [] → IsUnsettled total ts left
nothing_held total ts left e = record {
  no_token = λ t rest f. forms_some total t left rest f.forms e;
  no_stop = λ r k s. stop_some r total ts left k s e;
}

pub held_at_end : (text : List ℕ) (at : ℕ) → length text ≤ at → IsUnsettledAt text at
held_at_end text at le ts = nothing_held (length text) ts (drop at text) (drop_all at text le)

-- ---- what stays pending

all_behind : (test : ℕ → Bool) (raw rest : List ℕ) → rest ≢ [] → StopsAt test rest → list_all test (raw ++ rest) ≡ true → ⊥
all_behind test raw [] some s e = absurd (some refl)
all_behind test raw (b ∷ bs) some s e = true_not_false (test b) (and_parts _ (list_all test bs) (and_parts (list_all test raw) _ (sym (list_all-append test raw (b ∷ bs)) ∙ e)).1).0 s

word_from_all : (left : List ℕ) → BeginsWith is_letter left → list_all is_word_byte left ≡ true → IsWord left
word_from_all [] b e = absurd b
word_from_all (x ∷ xs) b e = (b, (and_parts (is_word_byte x) (list_all is_word_byte xs) e).1)

pub word_held : (left : List ℕ) → IsPendingIn left pending.Word → IsUnsettledIn left
word_held left p total within ts =
    token_held total left ts (single word (total - length left) left) []
    (record { spelled = sym (append-nil left); formed = word_from_all left p.0 p.1; ends = tt; placed = omega arith })
    (λ some. some refl)

-- where a single token of one kind must begin, and none is settled, nor any flaw that begins so
single_held : (left : List ℕ) (kind : Kind) → shape_at left ≡ Some (a_single kind) → ((total place : ℕ) (raw rest : List ℕ) → ¬ (FormsSettled total (single kind place raw) left rest))
    → ((r : Reason) (k : ℕ) → shape_for r ≡ Some (a_single kind) → IsFlaw r left k → ¬ (IsFlawSettled r left)) → IsUnsettledIn left
single_held left kind shape no_token no_flaw total within ts =
    held_without total left ts (λ t rest f. go t rest f (some_shape _ _ (sym (Forms-shape total t left rest f.forms) ∙ shape))) (λ r k f. no_flaw r k (sym (flaw_shape r left k f) ∙ shape) f)
  where
    go : (t : Token) (rest : List ℕ) → FormsSettled total t left rest → shape_of t ≡ a_single kind → ⊥
    go (single k place raw) rest f e = let same : k ≡ kind = cc in no_token total place raw rest (subst (λ z. FormsSettled total (single z place raw) left rest) same f)
    go t rest f e = absurd cc

pub run_held : (left : List ℕ) → IsPendingIn left pending.Run → IsUnsettledIn left
run_held left run =
    single_held left number (shape_at_start left [] left run.0 (sym (append-nil left)))
    (λ total place raw rest f. all_behind is_run_byte raw rest f.settled f.forms.ends (ap (list_all is_run_byte) (sym f.forms.spelled) ∙ run.1)) flaw
  where
    flaw : (r : Reason) (k : ℕ) → shape_for r ≡ Some (a_single number) → IsFlaw r left k → ¬ (IsFlawSettled r left)
    flaw NotUtf8 k e f s = absurd cc
    flaw r k e f s = grind arith

module _ (left : List ℕ) (quote : left ≡ 34 ∷ drop 1 left) (n : ℕ) (o : IsOpenTo (drop 1 left) n) (front : IsUtf8Front (drop 1 left)) where
  -- at the last byte a quote that closes the text, if no other comes
  shut_at_end : drop n (drop 1 left) ≡ 34 ∷ [] → IsShut (drop 1 left) (take n (drop 1 left)) []
  shut_at_end e = record { parts = same_split (drop 1 left) n (34 ∷ []) e; inside = o.0.1; ends = tt }

  all_inside : drop n (drop 1 left) ≡ [] → IsInside (drop 1 left)
  all_inside e = subst IsInside (sym (same_split (drop 1 left) n [] e ∙ append-nil (take n (drop 1 left)))) o.0.1

  text_no_token : (total place : ℕ) (raw rest : List ℕ) → ¬ (FormsSettled total (single tokens.text place raw) left rest)
  text_no_token total place raw rest f =
      let shut = Forms-shut total place raw left rest f.forms (drop 1 left) quote in
      elim o.1 [
        | inl none ↦ shut_not_open (drop 1 left) raw rest shut (all_inside none)
        | inr last ↦ f.settled (shut_one (drop 1 left) raw rest (take n (drop 1 left)) [] shut (shut_at_end last)).1
      ]

  text_no_flaw : (r : Reason) (k : ℕ) → shape_for r ≡ Some (a_single tokens.text) → IsFlaw r left k → ¬ (IsFlawSettled r left)
  text_no_flaw NotUtf8 k e f s =
      let same : f.0 ≡ drop 1 left = same_tail 34 34 f.0 (drop 1 left) (sym f.2 ∙ quote) in
      let t = through_front f.0 f.1 f.3 in
      f.4 (IsUtf8Front-shorter f.1 t.0 (subst IsUtf8Front (sym same ∙ t.1) front))
  text_no_flaw r k e f s = grind arith

  pub text_held : IsUnsettledIn left
  text_held = single_held left tokens.text (ap shape_at quote) text_no_token text_no_flaw

-- ---- one piece more

-- what a word or a run begins with, and goes on with
longer_run : (first test : ℕ → Bool) (before piece : List ℕ) → BeginsWith first before × (list_all test before ≡ true) → length piece ≤ prefix_len test piece
    → BeginsWith first (before ++ piece) × (list_all test (before ++ piece) ≡ true)
longer_run first test [] piece p le = absurd p.0
longer_run first test (b ∷ bs) piece p le = (p.0, all_append test (b ∷ bs) piece p.1 (all_full test piece le))

pub word_stays : (left before piece : List ℕ) → left ≡ before ++ piece → IsPendingIn before pending.Word → length piece ≤ prefix_len is_word_byte piece → StaysPending left pending.Word
word_stays left before piece e p le =
    let longer = longer_run is_letter is_word_byte before piece p le in
    rw e (longer, word_held (before ++ piece) longer, rw append-nil at (dark_word (before ++ piece) [] (word_from_all (before ++ piece) longer.0 longer.1)))

pub run_stays : (left before piece : List ℕ) → left ≡ before ++ piece → IsPendingIn before pending.Run → length piece ≤ prefix_len is_run_byte piece → StaysPending left pending.Run
run_stays left before piece e p le =
    let longer = longer_run is_run_start is_run_byte before piece p le in
    rw e (longer, run_held (before ++ piece) longer, rw append-nil at (dark_start (before ++ piece) [] longer.0))

pub text_stays : (left : List ℕ) (inside valid : ℕ) → left ≡ 34 ∷ drop 1 left → IsOpenTo (drop 1 left) inside → IsValidTo (drop 1 left) valid × IsUtf8Front (drop 1 left)
    → StaysPending left (pending.Text inside valid)
text_stays left inside valid e o v = ((e, o.0, v.0), text_held left e inside o v.1, subst (StopsAt is_white) (sym e) refl)

longer_pending : (before piece : List ℕ) (inside valid : ℕ) → IsPendingIn before (pending.Text inside valid) → IsPendingIn (before ++ piece) (pending.Text inside valid)
longer_pending [] piece inside valid p = absurd (let e : [] ≡ 34 ∷ [] = p.0 in cc)
longer_pending (b ∷ bs) piece inside valid (e, i, v) = (
  ap (λ z. z ++ piece) e,
  (omega (arith, i.0, length-append bs piece), subst IsInside (sym (take-append-le inside bs piece i.0)) i.1),
  (omega (arith, v.0, length-append bs piece), subst IsUtf8 (sym (take-append-le valid bs piece v.0)) v.1),
)

pub pending_longer : (left before piece : List ℕ) (inside valid : ℕ) (p : Pending) → p ≡ pending.Text inside valid → left ≡ before ++ piece → IsPendingIn before p → IsPendingIn left (pending.Text inside valid)
pending_longer left before piece inside valid p is e i =
    subst (λ z. IsPendingIn z (pending.Text inside valid)) (sym e) (longer_pending before piece inside valid (subst (IsPendingIn before) is i))

module _ (after : List ℕ) (known : ℕ) where
  inside_append : (a b : List ℕ) → IsInside a → IsInside b → IsInside (a ++ b)
  inside_append a b p q = (p.0 ++ q.0, ap (λ z. z ++ b) p.1 ∙ ap (λ z. doubled p.0 ++ z) q.1 ∙ sym (doubled-append p.0 q.0))

  pub open_from : IsInsideTo after known → IsInside (drop known after) → IsOpenTo after (length after)
  open_from i rest = (
    (omega arith, subst IsInside (take-append-drop known after ∙ sym (take_all (length after) after (omega arith))) (inside_append (take known after) (drop known after) i.1 rest)),
    inl (drop_all (length after) after (omega arith)),
  )

  pub shut_from : (more : ℕ) → IsInsideTo after known → IsShutAt (drop known after) more → IsShutAt after (known + more)
  shut_from more i s =
      let rest = drop known after in
      let n : known + more + 1 ≡ known + (more + 1) = omega arith in
      rw (n, ← drop-drop (more + 1) known after) (
        record {
          parts = same_split after (known + more) (34 ∷ drop (more + 1) rest) (sym (drop-drop more known after) ∙ quote_behind rest more s);
          inside = subst IsInside (sym (take-add known more after)) (inside_append (take known after) (take more rest) i.1 s.0.inside);
          ends = s.0.ends;
        },
        omega (arith, s.1, length-drop known after),
      )

  pub lone : IsShutAt after known → known + 1 ≡ length after → IsOpenTo after known
  lone s e = ((omega arith, s.0.inside), inr (quote_behind after known s ∙ ap (λ (z : List ℕ). 34 ∷ z) (drop_all (known + 1) after (omega arith))))

  pub valid_from : (more : ℕ) → IsValidTo after known → IsValidTo (drop known after) more × IsUtf8Front (drop known after) → IsValidTo after (known + more) × IsUtf8Front after
  valid_from more v ((le, u), (tail, w)) =
      let whole : IsUtf8 (after ++ tail) = subst IsUtf8 (sym (append_assoc (take known after) (drop known after) tail) ∙ ap (λ z. z ++ tail) (take-append-drop known after)) (IsUtf8-append (take known after) (drop known after ++ tail) v.1 w) in (
        (omega (arith, le, v.0, length-drop known after), subst IsUtf8 (sym (take-add known more after)) (IsUtf8-append (take known after) (take more (drop known after)) v.1 u)),
        (tail, whole),
      )

-- ---- after the piece

longer_to : (text before piece : List ℕ) (table : Flat) (at from : ℕ) → text ≡ before ++ piece → IsSettledTo before table at → IsAfterWhite (drop at text) (drop from text) → from ≤ length text
    → IsSettledTo text table from
longer_to text before piece table at from e s w le =
    let total : length before + length piece ≡ length (before ++ piece) = omega (arith, length-append before piece) in
    let white = rw (e, drop-append-le at before piece s.within) at w in
    rw e (record {
      tokens = s.tokens;
      shows = s.shows;
      fronts = rw (← total) (fronts_longer (length before) s.tokens before (drop at before) piece (drop from (before ++ piece)) s.fronts white);
      within = rw e at le;
    })

pub settled_behind : (text before piece : List ℕ) (table : Flat) (at from : ℕ) → text ≡ before ++ piece → IsSettledTo before table at → from ≡ at + prefix_len is_white (drop at text) → IsSettledTo text table from
settled_behind text before piece table at from e s f =
    let w = prefix_len is_white (drop at text) in
    let le : at ≤ length text = omega (arith, s.within, ap length e, length-append before piece) in
    longer_to text before piece table at from e s (rw (f, ← drop-drop w at text) (after_white (drop at text) w refl)) (omega (arith, prefix_len-le-length is_white (drop at text), length-drop at text))

pub settled_still : (text before piece : List ℕ) (table : Flat) (at : ℕ) → text ≡ before ++ piece → IsSettledTo before table at → StopsAt is_white (drop at text) → IsSettledTo text table at
settled_still text before piece table at e s dark =
    longer_to text before piece table at at e s (at_once (drop at text) dark) (omega (arith, s.within, ap length e, length-append before piece))

pub pending_before : (text before piece left : List ℕ) (at : ℕ) (p : Pending) → text ≡ before ++ piece → left ≡ drop at text → at ≤ length before → IsPendingIn (drop at before) p → IsPendingBefore left piece p
pending_before text before piece left at p e f le is = (drop at before, f ∙ ap (drop at) e ∙ drop-append-le at before piece le, is)

pub so_far_from : (text : List ℕ) (table : Flat) (at : ℕ) → IsSettledTo text table at → IsUnsettledAt text at → IsTakenSoFar text
so_far_from text table at s held = taken_so_far text s.tokens (drop at text) s.fronts (viable_from_shows s.tokens table s.shows) (held s.tokens)

pub held_at_place : (text left : List ℕ) (at : ℕ) → left ≡ drop at text → IsUnsettledIn left → IsUnsettledAt text at
held_at_place text left at e held ts = subst (IsUnsettled (length text) ts) e (held (length text) (omega (arith, ap length e, length-drop at text)) ts)

pub settled_start : (text : List ℕ) (table : Flat) (at : ℕ) → table ≡ flat start → at ≡ prefix_len is_white text → IsSettledTo text table at
settled_start text table at t e =
    let r = reached_first text at e table t in
    record { tokens = []; shows = subst (Shows []) (sym t) shows_start; fronts = after_white text at e; within = r.within }

-- ---- what a feeder knows

pub fed_start : (bytes : List ℕ) (table : Flat) → bytes ≡ [] → table ≡ flat start → IsFedTo bytes table (record { at = 0; pending = pending.Unknown })
fed_start bytes table e t =
    let s = settled_start bytes table 0 t (sym (ap (prefix_len is_white) e)) in
    record { settled = s; pending = tt; so_far = so_far_from bytes table 0 s (held_at_end bytes 0 (omega (arith, ap length e))) }

pub known_fault : (bytes : List ℕ) (table : Flat) (held : Held) (known : Option RefusedAt) (fault : Fault) → IsFed bytes table held known → IsRefusalOf known fault → IsTextFault bytes fault
known_fault bytes table held known (faults.Refused r) fed e = refuses_from_settled bytes r.number r.place (subst (IsFed bytes table held) e fed)
known_fault bytes table held known (faults.Memory m) fed e = absurd e

pub fed_none : (bytes : List ℕ) (table : Flat) (held : Held) (known : Option RefusedAt) → IsFed bytes table held known → known ≡ None → IsFedTo bytes table held
fed_none bytes table held known fed e = subst (IsFed bytes table held) e fed
