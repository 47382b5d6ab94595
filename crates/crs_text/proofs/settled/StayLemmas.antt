-- What is settled stays settled under any bytes to come, and is one thing.
use Rattle.std.proofs.Common.{ap₂, ◌≡◌, ℕ, ◌+◌, ◌≤◌, Bool, List, [], ◌∷◌, ◌++◌, length, refl, sym, ap, subst, ◌∙◌, append_assoc, arith, inl, inr, IsTrue, ◌≢◌}
use Rattle.std.specs.List.{list_all}
use Rattle.std.proofs.lemmas.List.{append-nil, length-append}
use Rattle.std.proofs.lemmas.List.Folds.{list_all-append}
use Rattle.std.proofs.lemmas.Bool.{cases_lt}
use Rattle.crs_decimal.specs.inner.Prelude.{is_run_byte}
use Rattle.crs_text.specs.Tokens.{StopsAt, is_quote, IsShut, Through, IsUtf8Front, Token, single, closing, is_white, takes_byte, Ends, IsPlaced, spelling, Forms, IsAfterWhite, Fronts}
use Rattle.crs_text.specs.Viable.{IsViable}
use Rattle.crs_text.specs.declared.refusal.Reason.{Reason}
use Rattle.crs_text.specs.declared.refusal.Reason.TheVariants.{BadCharacter, BadNumber, NumberRange, NotUtf8, OpenText, Unexpected, UnexpectedEnd, TooDeep}
use Rattle.crs_text.specs.TextFault.{BeginsNoToken, IsFirstRun, IsFlaw, IsStop, RefusesText, IsSettled, FormsSettled, SettledFronts, IsRunSettled, IsSettledStop, IsSettledRefusal, IsTakenSoFar}
use Rattle.crs_text.specs.inner.Feeding.{IsUnsettled}
use Rattle.crs_text.proofs.tokens.TokenLemmas.{Forms-one, flaw_some, after_white_one, forms_some, at_once, fronts_dark, fronts_compare, front_none}
use Rattle.crs_text.proofs.tokens.QuotedLemmas.{same_head, same_tail, shut_one, shut_not_open}
use Rattle.crs_text.proofs.tokens.Utf8Lemmas.{IsUtf8Front-shorter, IsLongestUtf8-longer}
use Rattle.crs_text.proofs.tokens.LeftLemmas.{shut_or_open}
use Rattle.crs_text.proofs.tokens.ViableLemmas.{viable_front}
use Rattle.crs_text.proofs.texts.OneAnswerLemmas.{refusal_one, no_further}

-- ---- what is settled is there

pub fronts_from_settled : (total : ℕ) (ts : List Token) (bytes left : List ℕ) → SettledFronts total bytes ts left → Fronts total bytes ts left
fronts_from_settled total [] bytes left p = p
fronts_from_settled total (t ∷ ts) bytes left p = (p.0, p.1, p.2, p.3.forms, fronts_from_settled total ts p.1 left p.4)

pub stop_from_settled : (r : Reason) (total : ℕ) (ts : List Token) (left : List ℕ) (k : ℕ) → IsSettledStop r total ts left k → IsStop r total ts left k
stop_from_settled BadNumber total ts left k s = s.0
stop_from_settled NumberRange total ts left k s = s.0
stop_from_settled OpenText total ts left k s = absurd s
stop_from_settled Unexpected total ts left k s = (s.0, s.1, s.2.forms, s.3, s.4, s.5)
stop_from_settled UnexpectedEnd total ts left k s = absurd s
stop_from_settled TooDeep total ts left k s = (s.0, s.1, s.2.forms, s.3, s.4)
stop_from_settled r total ts left k s = s

-- a settled refusal is one
pub refuses_from_settled : (bytes : List ℕ) (n place : ℕ) → IsSettledRefusal bytes n place → RefusesText bytes n place
refuses_from_settled bytes n place r = record {
  reason = r.reason;
  before = r.before;
  left = r.left;
  skip = r.skip;
  fronts = fronts_from_settled (length bytes) r.before bytes r.left r.fronts;
  viable = r.viable;
  stop = stop_from_settled r.reason (length bytes) r.before r.left r.skip r.stop;
  is_number = r.is_number;
  is_place = r.is_place;
}

pub settled_one : (bytes : List ℕ) (n m p q : ℕ) → IsSettledRefusal bytes n p → IsSettledRefusal bytes m q → (n ≡ m) × (p ≡ q)
settled_one bytes n m p q x y = refusal_one bytes n m p q (refuses_from_settled bytes n p x) (refuses_from_settled bytes m q y)

-- ---- under more bytes

pub stops_more : (test : ℕ → Bool) (left more : List ℕ) → left ≢ [] → StopsAt test left → StopsAt test (left ++ more)
stops_more test [] more some s = absurd (some refl)
stops_more test (b ∷ bs) more some s = s

ends_more : (t : Token) (rest more : List ℕ) → IsSettled t rest → Ends t rest → Ends t (rest ++ more)
ends_more (single kind place raw) rest more some e = stops_more (takes_byte kind) rest more some e
ends_more t rest more some e = tt

placed_more : (total : ℕ) (t : Token) (left more : List ℕ) → IsPlaced total t left → IsPlaced (total + length more) t (left ++ more)
placed_more total (single kind place raw) left more p = omega (arith, length-append left more)
placed_more total (closing place square) left more p = omega (arith, length-append left more)
placed_more total t left more p = tt

settled_more : (t : Token) (rest more : List ℕ) → IsSettled t rest → IsSettled t (rest ++ more)
settled_more (single kind place raw) [] more some = λ e. some refl
settled_more (single kind place raw) (b ∷ bs) more some = λ e. absurd cc
settled_more t rest more s = tt

pub forms_more : (total : ℕ) (t : Token) (left rest more : List ℕ) → FormsSettled total t left rest → FormsSettled (total + length more) t (left ++ more) (rest ++ more)
forms_more total t left rest more f = record {
  forms = record {
    spelled = ap (λ z. z ++ more) f.forms.spelled ∙ append_assoc (spelling t) rest more;
    formed = f.forms.formed;
    ends = ends_more t rest more f.settled f.forms.ends;
    placed = placed_more total t left more f.forms.placed;
  };
  settled = settled_more t rest more f.settled;
}

pub all_append : (test : ℕ → Bool) (a b : List ℕ) → IsTrue (list_all test a) → IsTrue (list_all test b) → IsTrue (list_all test (a ++ b))
all_append test a b p q = rw (list_all-append test a b, p, q) refl

white_twice : (bytes left more further : List ℕ) → IsAfterWhite bytes left → IsAfterWhite (left ++ more) further → IsAfterWhite (bytes ++ more) further
white_twice bytes left more further p q = record {
  white = p.white ++ q.white;
  parts = ap (λ z. z ++ more) p.parts ∙ append_assoc p.white left more ∙ ap (λ z. p.white ++ z) q.parts ∙ sym (append_assoc p.white q.white further);
  blank = all_append is_white p.white q.white p.blank q.blank;
  ends = q.ends;
}

white_more : (bytes left more : List ℕ) → left ≢ [] → IsAfterWhite bytes left → IsAfterWhite (bytes ++ more) (left ++ more)
white_more bytes left more some w = white_twice bytes left more (left ++ more) w (at_once (left ++ more) (stops_more is_white left more some w.ends))

-- more bytes come after settled tokens
pub fronts_longer : (total : ℕ) (ts : List Token) (bytes left more further : List ℕ) → SettledFronts total bytes ts left → IsAfterWhite (left ++ more) further
    → SettledFronts (total + length more) (bytes ++ more) ts further
fronts_longer total [] bytes left more further p w = white_twice bytes left more further p w
fronts_longer total (t ∷ ts) bytes left more further p w = (
  p.0 ++ more,
  p.1 ++ more,
  white_more bytes p.0 more (forms_some total t p.0 p.1 p.3.forms) p.2,
  forms_more total t p.0 p.1 more p.3,
  fronts_longer total ts p.1 left more further p.4 w,
)

-- the longer of two fronts of one list goes on where the other ends
prefix_split : (a b x y : List ℕ) → a ++ x ≡ b ++ y → length a ≤ length b → (c : List ℕ) × (b ≡ a ++ c) × (x ≡ c ++ y)
prefix_split [] b x y e le = (b, refl, e)
prefix_split (u ∷ a) [] x y e le = absurd (omega arith)
prefix_split (u ∷ a) (v ∷ b) x y e le =
    let r = prefix_split a b x y (same_tail u v (a ++ x) (b ++ y) e) (omega arith) in
    (r.0, ap₂ (λ z (zs : List ℕ). z ∷ zs) (sym (same_head u v (a ++ x) (b ++ y) e)) r.1, r.2)

run_rest : (left run rest : List ℕ) → IsFirstRun left run rest → IsRunSettled left → rest ≢ []
run_rest left run rest r s e = let t = ap (list_all is_run_byte) (r.parts ∙ ap (λ z. run ++ z) e ∙ append-nil run) ∙ r.taken in absurd cc

run_longer : (left run rest more : List ℕ) → IsRunSettled left → IsFirstRun left run rest → IsFirstRun (left ++ more) run (rest ++ more)
run_longer left run rest more s r = record {
  parts = ap (λ z. z ++ more) r.parts ∙ append_assoc run rest more;
  starts = r.starts;
  taken = r.taken;
  ends = stops_more is_run_byte rest more (run_rest left run rest r s) r.ends;
}

run_settled_longer : (left more : List ℕ) → IsRunSettled left → IsRunSettled (left ++ more)
run_settled_longer left more s = rw (list_all-append is_run_byte left more, s) refl

no_token_longer : (left more : List ℕ) → BeginsNoToken left → BeginsNoToken (left ++ more)
no_token_longer [] more b = absurd b
no_token_longer (x ∷ xs) more b = b

-- what follows an opening quote, through the closing one: its front is unchanged
pub through_front : (after inside : List ℕ) → Through after inside → (rest : List ℕ) × (after ≡ inside ++ rest)
through_front after inside (inl s) =
    (s.1, s.2.parts ∙ sym (append_assoc s.0 (34 ∷ []) s.1) ∙ ap (λ z. z ++ s.1) (sym s.3))
through_front after inside (inr o) = ([], sym o.1 ∙ sym (append-nil inside))

shut_not_front : (after more inside raw rest : List ℕ) → Through after inside → ¬ (IsUtf8Front inside) → IsShut (after ++ more) raw rest → ¬ (IsUtf8Front (raw ++ 34 ∷ []))
shut_not_front after more inside raw rest through ill s front =
    elim (cases_lt (length raw) (length after)) [
      | inl lt ↦
          let (c, e, f) = prefix_split (raw ++ 34 ∷ []) after rest more (append_assoc raw (34 ∷ []) rest ∙ sym s.parts) (omega (arith, length-append raw (34 ∷ []))) in
          ill (rw (same_inside c e f) front)
      | inr le ↦
          let (c, e, f) = prefix_split after (raw ++ 34 ∷ []) more rest (s.parts ∙ sym (append_assoc raw (34 ∷ []) rest)) (omega (arith, length-append raw (34 ∷ []))) in
          let (tail, t) = through_front after inside through in
          ill (IsUtf8Front-shorter inside (tail ++ c) (subst IsUtf8Front (e ∙ ap (λ z. z ++ c) t ∙ append_assoc inside tail c) front))
    ]
  where
    stops_front : (test : ℕ → Bool) (a b : List ℕ) → StopsAt test (a ++ b) → StopsAt test a
    stops_front test [] b h = tt
    stops_front test (x ∷ a) b h = h

    same_inside : (c : List ℕ) → after ≡ (raw ++ 34 ∷ []) ++ c → rest ≡ c ++ more → inside ≡ raw ++ 34 ∷ []
    same_inside c e f =
        let shut : IsShut after raw c = record { parts = e ∙ append_assoc raw (34 ∷ []) c; inside = s.inside; ends = stops_front is_quote c more (rw f at s.ends) } in
        elim through [
          | inl o ↦ o.3 ∙ ap (λ z. z ++ 34 ∷ []) (shut_one after o.0 o.1 raw c o.2 shut).0
          | inr o ↦ absurd (shut_not_open after raw c shut o.0)
        ]

-- ill-formed UTF-8 stays so
not_utf8_longer : (left more : List ℕ) (k : ℕ) → IsFlaw NotUtf8 left k → IsFlaw NotUtf8 (left ++ more) k
not_utf8_longer left more k f =
    let after = f.0 in
    let inside = f.1 in
    let t = through_front after inside f.3 in
    let bad : ¬ (IsUtf8Front after) = λ front. f.4 (IsUtf8Front-shorter inside t.0 (subst IsUtf8Front t.1 front)) in
    let longest = IsLongestUtf8-longer after more f.5 bad f.6 in
    let quote : left ++ more ≡ 34 ∷ (after ++ more) = ap (λ z. z ++ more) f.2 in
    elim (shut_or_open (after ++ more)) [
      | inl s ↦ (after ++ more, s.0 ++ 34 ∷ [], quote, inl (s.0, s.1, s.2, refl), shut_not_front after more inside s.0 s.1 f.3 f.4 s.2, f.5, longest, f.7)
      | inr o ↦ (after ++ more, after ++ more, quote, inr (o, refl), (λ front. bad (IsUtf8Front-shorter after more front)), f.5, longest, f.7)
    ]

pub stop_longer : (r : Reason) (total : ℕ) (ts : List Token) (left more : List ℕ) (k : ℕ) → IsSettledStop r total ts left k → IsSettledStop r (total + length more) ts (left ++ more) k
stop_longer BadCharacter total ts left more k s = (no_token_longer left more s.0, s.1)
stop_longer BadNumber total ts left more k ((run, rest, r, form, z), e) =
    ((run, rest ++ more, run_longer left run rest more e r, form, z), run_settled_longer left more e)
stop_longer NumberRange total ts left more k ((run, rest, r, form, out, z), e) =
    ((run, rest ++ more, run_longer left run rest more e r, form, out, z), run_settled_longer left more e)
stop_longer NotUtf8 total ts left more k s = not_utf8_longer left more k s
stop_longer OpenText total ts left more k s = absurd s
stop_longer Unexpected total ts left more k s = (s.0, s.1 ++ more, forms_more total s.0 left s.1 more s.2, s.3, s.4, s.5)
stop_longer UnexpectedEnd total ts left more k s = absurd s
stop_longer TooDeep total ts left more k s = (s.0, s.1 ++ more, forms_more total s.0 left s.1 more s.2, s.3, s.4)

pub stop_some : (r : Reason) (total : ℕ) (ts : List Token) (left : List ℕ) (k : ℕ) → IsSettledStop r total ts left k → left ≢ []
stop_some Unexpected total ts left k s e = forms_some total s.0 left s.1 s.2.forms e
stop_some TooDeep total ts left k s e = forms_some total s.0 left s.1 s.2.forms e
stop_some UnexpectedEnd total ts left k s e = s
stop_some r total ts left k s e = flaw_some r left k (stop_from_settled r total ts left k s) e

-- a settled refusal is that of every continuation
pub settled_longer : (bytes more : List ℕ) (n place : ℕ) → IsSettledRefusal bytes n place → IsSettledRefusal (bytes ++ more) n place
settled_longer bytes more n place r =
    let total : length bytes + length more ≡ length (bytes ++ more) = omega (arith, length-append bytes more) in
    let some = stop_some r.reason (length bytes) r.before r.left r.skip r.stop in
    let dark = stops_more is_white r.left more some (fronts_dark (length bytes) r.before bytes r.left (fronts_from_settled (length bytes) r.before bytes r.left r.fronts)) in
    let fronts = fronts_longer (length bytes) r.before bytes r.left more (r.left ++ more) r.fronts (at_once (r.left ++ more) dark) in
    let stop = stop_longer r.reason (length bytes) r.before r.left more r.skip r.stop in
    record {
      reason = r.reason;
      before = r.before;
      left = r.left ++ more;
      skip = r.skip;
      fronts = subst (λ z. SettledFronts z (bytes ++ more) r.before (r.left ++ more)) total fronts;
      viable = r.viable;
      stop = subst (λ z. IsSettledStop r.reason z r.before (r.left ++ more) r.skip) total stop;
      is_number = r.is_number;
      is_place = omega (arith, r.is_place, length-append r.left more, length-append bytes more);
    }

-- ---- where nothing more is settled

-- among settled tokens, the one that comes where some of them ended is settled
settled_where_ended : (total : ℕ) (us : List Token) (t : Token) (more : List Token) (bytes a b : List ℕ) → Fronts total bytes us a → SettledFronts total bytes (us ++ t ∷ more) b
    → (rest : List ℕ) × FormsSettled total t a rest
settled_where_ended total [] t more bytes a b p q = let h : q.0 ≡ a = after_white_one bytes q.0 a q.2 p in (q.1, subst (λ z. FormsSettled total t z q.1) h q.3)
settled_where_ended total (u ∷ us) t more bytes a b p q =
    let h : q.0 ≡ p.0 = after_white_one bytes q.0 p.0 q.2 p.2 in
    let r = Forms-one total u u p.0 p.1 q.1 p.3 (subst (λ z. Forms total u z q.1) h q.3.forms) in
    settled_where_ended total us t more p.1 a b p.4 (subst (λ z. SettledFronts total z (us ++ t ∷ more) b) (sym r.1) q.4)

module _ (bytes : List ℕ) (ts : List Token) (left : List ℕ) (fronts : SettledFronts (length bytes) bytes ts left) (viable : IsViable ts) (held : IsUnsettled (length bytes) ts left) where
  before : Fronts (length bytes) bytes ts left
  before = fronts_from_settled (length bytes) ts bytes left fronts

  none_ahead : (us : List Token) (t : Token) (more : List Token) (b : List ℕ) → us ≡ ts ++ t ∷ more → SettledFronts (length bytes) bytes us b → ⊥
  none_ahead us t more b e q =
      let g = settled_where_ended (length bytes) ts t more bytes left b before (subst (λ z. SettledFronts (length bytes) bytes z b) e q) in held.no_token t g.0 g.1

  held_viable : (us : List Token) (b : List ℕ) → SettledFronts (length bytes) bytes us b → IsViable us
  held_viable us b q = elim (fronts_compare (length bytes) ts us bytes left b before (fronts_from_settled (length bytes) us bytes b q)) [
    | inl g ↦ ahead g.0 g.1
    | inr g ↦ viable_front us g.0 (subst IsViable g.1 viable)
  ]
    where
      ahead : (more : List Token) → us ≡ ts ++ more → IsViable us
      ahead [] e = subst IsViable (sym (append-nil ts) ∙ sym e) viable
      ahead (t ∷ more) e = absurd (none_ahead us t more b e q)

  held_unrefused : (n place : ℕ) → ¬ (IsSettledRefusal bytes n place)
  held_unrefused n place r = elim (fronts_compare (length bytes) ts r.before bytes left r.left before plain) [
    | inl g ↦ ahead g.0 g.1 g.2
    | inr g ↦ behind g.0 g.1 g.2
  ]
    where
      plain : Fronts (length bytes) bytes r.before r.left
      plain = fronts_from_settled (length bytes) r.before bytes r.left r.fronts

      same_place : r.before ≡ ts → left ≡ r.left → ⊥
      same_place e f =
          held.no_stop r.reason r.skip
          (subst (λ z. IsSettledStop r.reason (length bytes) ts z r.skip) (sym f) (subst (λ z. IsSettledStop r.reason (length bytes) z r.left r.skip) e r.stop))

      ahead : (more : List Token) → r.before ≡ ts ++ more → Fronts (length bytes) left more r.left → ⊥
      ahead [] e f = same_place (e ∙ append-nil ts) (front_none (length bytes) left r.left (fronts_dark (length bytes) ts bytes left before) f)
      ahead (t ∷ more) e f = none_ahead r.before t more r.left e r.fronts

      behind : (more : List Token) → ts ≡ r.before ++ more → Fronts (length bytes) r.left more left → ⊥
      behind [] e f =
          same_place (sym (e ∙ append-nil r.before)) (sym (front_none (length bytes) r.left left (fronts_dark (length bytes) r.before bytes r.left plain) f))
      behind (t ∷ more) e f = no_further r.reason (length bytes) r.before ts bytes r.left left r.skip t more plain (stop_from_settled r.reason (length bytes) r.before r.left r.skip r.stop) e f viable

  pub taken_so_far : IsTakenSoFar bytes
  taken_so_far = record { viable = held_viable; unrefused = held_unrefused }
