-- A text is one node at most, or is refused with one number and place at most, and never both.
use Rattle.std.proofs.Common.{◌≡◌, ℕ, List, [], ◌∷◌, ◌++◌, length, refl, sym, ap, subst, ◌∙◌, append_assoc, arith, inl, inr}
use Rattle.std.proofs.lemmas.List.{append-nil}
use Rattle.crs_text.specs.Tokens.{Token, opening, Forms, Fronts, AreTokens}
use Rattle.crs_text.specs.Items.{Item, AreNode}
use Rattle.crs_text.specs.Viable.{IsViable}
use Rattle.crs_text.specs.declared.refusal.Reason.{Reason}
use Rattle.crs_text.specs.declared.refusal.Reason.TheVariants.{Unexpected, UnexpectedEnd, TooDeep}
use Rattle.crs_text.specs.TextFault.{SpellsNode, reason_number, IsTooDeep, IsStop, RefusesText}
use Rattle.crs_text.proofs.tokens.TokenLemmas.{Forms-one, flaw_no_token, flaw_one, flaw_some, fronts_dark, GoesOn, fronts_compare, front_token, front_none, forms_some}
use Rattle.crs_text.proofs.tokens.ViableLemmas.{viable_front}

pub tokens_one : (bytes : List ℕ) (ts us : List Token) → AreTokens bytes ts → AreTokens bytes us → ts ≡ us
tokens_one bytes ts us p q = elim (fronts_compare (length bytes) ts us bytes [] [] p q) [ inl g ↦ same ts us g | inr g ↦ sym (same us ts g) ]
  where
    same : (ts us : List Token) → GoesOn (length bytes) ts [] us [] → ts ≡ us
    same ts us ([], e, f) = sym (append-nil ts) ∙ sym e
    same ts us (t ∷ more, e, f) = let r = front_token (length bytes) t more [] [] tt f in absurd (forms_some (length bytes) t [] r.0 r.1 refl)

too_deep_refused : (ts : List Token) (t : Token) → IsTooDeep ts t → IsViable (ts ++ t ∷ []) → ⊥
too_deep_refused ts (opening square) h v = h.1 v
too_deep_refused ts t h v = h

-- where it stops, there is no viable token
pub stop_no_token : (r : Reason) (total : ℕ) (ts : List Token) (left : List ℕ) (k : ℕ) (t : Token) (rest : List ℕ) → IsStop r total ts left k → Forms total t left rest → IsViable (ts ++ t ∷ []) → ⊥
stop_no_token Unexpected total ts left k t rest s f v =
    s.3 (subst (λ z. IsViable (ts ++ z ∷ [])) (Forms-one total t s.0 left rest s.1 f s.2).0 v)
stop_no_token TooDeep total ts left k t rest s f v =
    too_deep_refused ts s.0 s.3 (subst (λ z. IsViable (ts ++ z ∷ [])) (Forms-one total t s.0 left rest s.1 f s.2).0 v)
stop_no_token UnexpectedEnd total ts left k t rest s f v = forms_some total t left rest f s.0
stop_no_token r total ts left k t rest s f v = flaw_no_token r total t left rest k s f

-- where it stops and nothing is left, the tokens are no node
stop_no_node : (r : Reason) (total : ℕ) (ts : List Token) (left : List ℕ) (k : ℕ) (item : Item) → IsStop r total ts left k → left ≡ [] → AreNode item ts → ⊥
stop_no_node Unexpected total ts left k item s e n = forms_some total s.0 left s.1 s.2 e
stop_no_node TooDeep total ts left k item s e n = forms_some total s.0 left s.1 s.2 e
stop_no_node UnexpectedEnd total ts left k item s e n = s.1 item n
stop_no_node r total ts left k item s e n = flaw_some r left k s e

stop_one : (r s : Reason) (total : ℕ) (ts : List Token) (left : List ℕ) (k m : ℕ) → IsStop r total ts left k → IsStop s total ts left m → (r ≡ s) × (k ≡ m)
stop_one Unexpected Unexpected total ts left k m p q = (refl, p.5 ∙ sym q.5)
stop_one Unexpected TooDeep total ts left k m p q = absurd (p.4 (subst (IsTooDeep ts) (Forms-one total q.0 p.0 left q.1 p.1 q.2 p.2).0 q.3))
stop_one TooDeep Unexpected total ts left k m p q = absurd (q.4 (subst (IsTooDeep ts) (Forms-one total p.0 q.0 left p.1 q.1 p.2 q.2).0 p.3))
stop_one TooDeep TooDeep total ts left k m p q = (refl, p.4 ∙ sym q.4)
stop_one UnexpectedEnd UnexpectedEnd total ts left k m p q = (refl, p.2 ∙ sym q.2)
stop_one Unexpected UnexpectedEnd total ts left k m p q = absurd (forms_some total p.0 left p.1 p.2 q.0)
stop_one TooDeep UnexpectedEnd total ts left k m p q = absurd (forms_some total p.0 left p.1 p.2 q.0)
stop_one UnexpectedEnd Unexpected total ts left k m p q = absurd (forms_some total q.0 left q.1 q.2 p.0)
stop_one UnexpectedEnd TooDeep total ts left k m p q = absurd (forms_some total q.0 left q.1 q.2 p.0)
stop_one Unexpected s total ts left k m p q = absurd (flaw_no_token s total p.0 left p.1 m q p.2)
stop_one TooDeep s total ts left k m p q = absurd (flaw_no_token s total p.0 left p.1 m q p.2)
stop_one UnexpectedEnd s total ts left k m p q = absurd (flaw_some s left m q p.0)
stop_one r Unexpected total ts left k m p q = absurd (flaw_no_token r total q.0 left q.1 k p q.2)
stop_one r TooDeep total ts left k m p q = absurd (flaw_no_token r total q.0 left q.1 k p q.2)
stop_one r UnexpectedEnd total ts left k m p q = absurd (flaw_some r left k p q.0)
stop_one r s total ts left k m p q = flaw_one r s left k m p q

node_viable : (item : Item) (ts : List Token) → AreNode item ts → IsViable ts
node_viable item ts n = ([], item, subst (AreNode item) (sym (append-nil ts)) n)

-- what stops nothing goes past
pub no_further : (r : Reason) (total : ℕ) (ts us : List Token) (bytes left b : List ℕ) (k : ℕ) (t : Token) (more : List Token) → Fronts total bytes ts left → IsStop r total ts left k → us ≡ ts ++ t ∷ more → Fronts total left (t ∷ more) b → IsViable us → ⊥
no_further r total ts us bytes left b k t more p s e f v =
    let g = front_token total t more left b (fronts_dark total ts bytes left p) f in
    stop_no_token r total ts left k t g.0 s g.1 (viable_front (ts ++ t ∷ []) more (subst IsViable (e ∙ sym (append_assoc ts (t ∷ []) more)) v))

pub spelled_not_refused : (bytes : List ℕ) (item : Item) (n place : ℕ) → SpellsNode bytes item → RefusesText bytes n place → ⊥
spelled_not_refused bytes item n place p r =
    elim (fronts_compare (length bytes) r.before p.0 bytes r.left [] r.fronts p.1) [ inl g ↦ ahead g | inr g ↦ behind g ]
  where
    ahead : GoesOn (length bytes) r.before r.left p.0 [] → ⊥
    ahead ([], e, f) =
        stop_no_node r.reason (length bytes) r.before r.left r.skip item r.stop (front_none (length bytes) r.left [] (fronts_dark (length bytes) r.before bytes r.left r.fronts) f) (subst (AreNode item) (e ∙ append-nil r.before) p.2)
    ahead (t ∷ more, e, f) = no_further r.reason (length bytes) r.before p.0 bytes r.left [] r.skip t more r.fronts r.stop e f (node_viable item p.0 p.2)

    behind : GoesOn (length bytes) p.0 [] r.before r.left → ⊥
    behind ([], e, f) =
        stop_no_node r.reason (length bytes) r.before r.left r.skip item r.stop (sym (front_none (length bytes) [] r.left tt f)) (subst (AreNode item) (sym (append-nil p.0) ∙ sym e) p.2)
    behind (t ∷ more, e, f) = let g = front_token (length bytes) t more [] r.left tt f in forms_some (length bytes) t [] g.0 g.1 refl

-- neither of two refusals goes past the other
stops_alike : (bytes : List ℕ) (n m p q : ℕ) (x : RefusesText bytes n p) (y : RefusesText bytes m q) → GoesOn (length bytes) x.before x.left y.before y.left → (n ≡ m) × (p ≡ q)
stops_alike bytes n m p q x y ([], e, f) =
    let left : x.left ≡ y.left = front_none (length bytes) x.left y.left (fronts_dark (length bytes) x.before bytes x.left x.fronts) f in
    let one = stop_one x.reason y.reason (length bytes) x.before x.left x.skip y.skip x.stop (rw (left, ← append-nil x.before, ← e) y.stop) in
    (x.is_number ∙ ap reason_number one.0 ∙ sym y.is_number, omega (arith, x.is_place, y.is_place, one.1, ap length left))
stops_alike bytes n m p q x y (t ∷ more, e, f) = absurd (no_further x.reason (length bytes) x.before y.before bytes x.left y.left x.skip t more x.fronts x.stop e f y.viable)

pub refusal_one : (bytes : List ℕ) (n m p q : ℕ) → RefusesText bytes n p → RefusesText bytes m q → (n ≡ m) × (p ≡ q)
refusal_one bytes n m p q x y = elim (fronts_compare (length bytes) x.before y.before bytes x.left y.left x.fronts y.fronts) [
  | inl g ↦ stops_alike bytes n m p q x y g
  | inr g ↦ let one = stops_alike bytes m n q p y x g in (sym one.0, sym one.1)
]
