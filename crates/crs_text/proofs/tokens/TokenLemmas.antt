-- Tokens from a text's front: one list at most, one fault at most, and no token beside a flaw.
use Rattle.std.proofs.Common.{◌≡◌, ℕ, ◌+◌, Bool, true, false, ◌==◌, cond, List, [], ◌∷◌, ◌++◌, length, Option, Some, None, refl, sym, ap, ◌∙◌, append_assoc, arith, IsTrue, ◌<◌, subst, inl, inr, ◌⊎◌}
use Rattle.std.specs.List.{list_all}
use Rattle.std.proofs.lemmas.Bool.Decides.{nat_tests}
use Rattle.std.proofs.lemmas.Bool.{and_from}
use Rattle.crs_decimal.specs.inner.Prelude.{is_run_byte, is_run_start, HasForm, IsInBounds}
use Rattle.crs_text.specs.Tokens.{BeginsWith, IsShut, Kind, number, text, word, Token, single, comma, opening, closing, is_letter, is_word_byte, IsWord, opening_byte, closing_byte, Forms, StopsAt, is_white, IsFormed, IsAfterWhite, Fronts, spelling, IsInside, Through, IsUtf8Front, IsLongestUtf8}
use Rattle.crs_text.proofs.tokens.QuotedLemmas.{same_tail, run_split, shut_one, shut_not_open}
use Rattle.std.proofs.lemmas.List.{length-append}
use Rattle.crs_text.specs.declared.refusal.Reason.{Reason}
use Rattle.crs_text.specs.declared.refusal.Reason.TheVariants.{BadCharacter, BadNumber, NumberRange, NotUtf8, OpenText}
use Rattle.crs_text.specs.TextFault.{begins_token, BeginsNoToken, IsFirstRun, IsFlaw}
use Rattle.crs_text.proofs.tokens.Utf8Lemmas.{IsUtf8Front-from, IsUtf8-at_quote}

-- a token without its place and raw bytes
pub data Shape : Type 0 where
  a_single : Kind → Shape
  a_comma : Shape
  an_opening : Bool → Shape
  a_closing : Bool → Shape

abbrev pub shape_of : Token → Shape
shape_of (single kind place raw) = a_single kind
shape_of comma = a_comma
shape_of (opening square) = an_opening square
shape_of (closing place square) = a_closing square

-- the shape of the token that begins with this byte, if any does
abbrev pub shape_by : ℕ → Option Shape
shape_by b = cond (is_letter b) (Some (a_single word))
    (cond (is_run_start b) (Some (a_single number))
    (cond (b == 34) (Some (a_single text))
    (cond (b == 44) (Some a_comma)
    (cond (b == 91) (Some (an_opening true))
    (cond (b == 40) (Some (an_opening false))
    (cond (b == 93) (Some (a_closing true))
    (cond (b == 41) (Some (a_closing false)) None)))))))

abbrev pub shape_at : List ℕ → Option Shape
shape_at [] = None
shape_at (b ∷ bs) = shape_by b

shape_by_start : (b : ℕ) → is_run_start b ≡ true → shape_by b ≡ Some (a_single number)
shape_by_start b e = grind (arith, nat_tests)

pub shape_at_start : (raw rest left : List ℕ) → BeginsWith is_run_start raw → left ≡ raw ++ rest → shape_at left ≡ Some (a_single number)
shape_at_start [] rest left h e = absurd h
shape_at_start (b ∷ bs) rest left h e = ap shape_at e ∙ shape_by_start b h

pub Forms-shape : (total : ℕ) (t : Token) (left rest : List ℕ) → Forms total t left rest → shape_at left ≡ Some (shape_of t)
Forms-shape total (single number place raw) left rest f = shape_at_start raw rest left f.formed.0 f.spelled
Forms-shape total (single word place []) left rest f = absurd f.formed
Forms-shape total (single word place (b ∷ bs)) left rest f = ap shape_at f.spelled ∙ rw f.formed.0
Forms-shape total (opening true) left rest f = ap shape_at f.spelled
Forms-shape total (closing place true) left rest f = ap shape_at f.spelled
Forms-shape total t left rest f = ap shape_at f.spelled

pub letter_in_word : (b : ℕ) → is_letter b ≡ true → is_word_byte b ≡ true
letter_in_word b e = grind (arith, nat_tests)

word_bytes : (raw : List ℕ) → IsWord raw → IsTrue (list_all is_word_byte raw)
word_bytes [] h = absurd h
word_bytes (b ∷ bs) h = and_from (is_word_byte b) (list_all is_word_byte bs) (letter_in_word b h.0) h.1

-- a text token is a quote and then the inside, shut
pub Forms-shut : (total place : ℕ) (raw left rest : List ℕ) → Forms total (single text place raw) left rest → (after : List ℕ) → left ≡ 34 ∷ after → IsShut after raw rest
Forms-shut total place raw left rest f after e =
    record { parts = same_tail 34 34 after (raw ++ 34 ∷ rest) (sym e ∙ f.spelled ∙ ap (λ (z : List ℕ). 34 ∷ z) (append_assoc raw (34 ∷ []) rest)); inside = f.formed.0; ends = f.ends }

single_one : (kind : Kind) (p q n total : ℕ) (raw others rest tail : List ℕ) → p + n ≡ total → q + n ≡ total → (raw ≡ others) × (rest ≡ tail) → (single kind p raw ≡ single kind q others) × (rest ≡ tail)
single_one kind p q n total raw others rest tail a b t =
    let h : p ≡ q = omega arith in
    let k : raw ≡ others = t.0 in
    (cc, t.1)

-- tokens of one shape are one token
same_token : (total : ℕ) (t u : Token) (left rest tail : List ℕ) → Forms total t left rest → Forms total u left tail → shape_of t ≡ shape_of u → (t ≡ u) × (rest ≡ tail)
same_token total (single number p raw) (single number q others) left rest tail f g e =
    single_one number p q (length left) total raw others rest tail f.placed g.placed (run_split is_run_byte raw others rest tail f.formed.1 f.ends g.formed.1 g.ends (sym f.spelled ∙ g.spelled))
same_token total (single text p raw) (single text q others) left rest tail f g e =
    let after = raw ++ 34 ∷ rest in
    let spelled : left ≡ 34 ∷ after = f.spelled ∙ ap (λ (z : List ℕ). 34 ∷ z) (append_assoc raw (34 ∷ []) rest) in
    single_one text p q (length left) total raw others rest tail f.placed g.placed
    (shut_one after raw rest others tail (Forms-shut total p raw left rest f after spelled) (Forms-shut total q others left tail g after spelled))
same_token total (single word p raw) (single word q others) left rest tail f g e =
    single_one word p q (length left) total raw others rest tail f.placed g.placed
    (run_split is_word_byte raw others rest tail (word_bytes raw f.formed) f.ends (word_bytes others g.formed) g.ends (sym f.spelled ∙ g.spelled))
same_token total comma comma left rest tail f g e = (refl, same_tail 44 44 rest tail (sym f.spelled ∙ g.spelled))
same_token total (opening square) (opening other) left rest tail f g e =
    let k : square ≡ other = cc in (ap opening k, same_tail (opening_byte square) (opening_byte other) rest tail (sym f.spelled ∙ g.spelled))
same_token total (closing p square) (closing q other) left rest tail f g e =
    let k : square ≡ other = cc in
    let h : p ≡ q = omega (arith, f.placed, g.placed) in
    (cc, same_tail (closing_byte square) (closing_byte other) rest tail (sym f.spelled ∙ g.spelled))
same_token total t u left rest tail f g e = absurd cc

pub some_shape : (s u : Shape) → Some s ≡ Some u → s ≡ u
some_shape s u e = cc

-- what is left begins with one token at most
pub Forms-one : (total : ℕ) (t u : Token) (left rest tail : List ℕ) → Forms total t left rest → Forms total u left tail → (t ≡ u) × (rest ≡ tail)
Forms-one total t u left rest tail f g =
    same_token total t u left rest tail f g (some_shape (shape_of t) (shape_of u) (sym (Forms-shape total t left rest f) ∙ Forms-shape total u left tail g))

-- ---- the tokens of a text from its front: one list at most, and one fault at most

-- what is left after white space is one list of bytes
pub after_white_one : (bytes a b : List ℕ) → IsAfterWhite bytes a → IsAfterWhite bytes b → a ≡ b
after_white_one bytes a b p q = (run_split is_white p.white q.white a b p.blank p.ends q.blank q.ends (sym p.parts ∙ q.parts)).1

-- no white space begins a token
run_start_dark : (b : ℕ) → is_run_start b ≡ true → is_white b ≡ false
run_start_dark b e = grind (arith, nat_tests)

letter_dark : (b : ℕ) → is_letter b ≡ true → is_white b ≡ false
letter_dark b e = grind (arith, nat_tests)

pub dark_start : (raw rest : List ℕ) → BeginsWith is_run_start raw → StopsAt is_white (raw ++ rest)
dark_start [] rest h = absurd h
dark_start (b ∷ bs) rest h = run_start_dark b h

pub dark_word : (raw rest : List ℕ) → IsWord raw → StopsAt is_white (raw ++ rest)
dark_word [] rest h = absurd h
dark_word (b ∷ bs) rest h = letter_dark b h.0

-- what is left begins with no white space
pub fronts_dark : (total : ℕ) (ts : List Token) (bytes left : List ℕ) → Fronts total bytes ts left → StopsAt is_white left
fronts_dark total [] bytes left p = p.ends
fronts_dark total (t ∷ ts) bytes left p = fronts_dark total ts p.1 left p.4

pub at_once : (left : List ℕ) → StopsAt is_white left → IsAfterWhite left left
at_once left ends = record { white = []; parts = refl; blank = refl; ends = ends }

-- tokens may begin right after white space
pub skip_white : (total : ℕ) (ts : List Token) (bytes at left : List ℕ) → IsAfterWhite bytes at → Fronts total bytes ts left → Fronts total at ts left
skip_white total [] bytes at left p q = subst (λ z. IsAfterWhite z left) (after_white_one bytes left at q p) (at_once left q.ends)
skip_white total (t ∷ ts) bytes at left p q =
    let h : q.0 ≡ at = after_white_one bytes q.0 at q.2 p in
    (q.0, q.1, subst (λ z. IsAfterWhite z q.0) h (at_once q.0 q.2.ends), q.3, q.4)

-- one of two fronts of a text goes on where the other ends
abbrev pub GoesOn : ℕ → List Token → List ℕ → List Token → List ℕ → Type 0
GoesOn total us a vs b = (more : List Token) × (vs ≡ us ++ more) × Fronts total a more b

goes_on : (total : ℕ) (u v : Token) (us vs : List Token) (a b : List ℕ) → u ≡ v → GoesOn total us a vs b → GoesOn total (u ∷ us) a (v ∷ vs) b
goes_on total u v us vs a b e g = let k : vs ≡ us ++ g.0 = g.1 in (g.0, cc, g.2)

pub fronts_compare : (total : ℕ) (us vs : List Token) (bytes a b : List ℕ) → Fronts total bytes us a → Fronts total bytes vs b → GoesOn total us a vs b ⊎ GoesOn total vs b us a
fronts_compare total [] vs bytes a b p q = inl (vs, refl, skip_white total vs bytes a b p q)
fronts_compare total (u ∷ us) [] bytes a b p q = inr (u ∷ us, refl, skip_white total (u ∷ us) bytes b a q p)
fronts_compare total (u ∷ us) (v ∷ vs) bytes a b p q =
    let h : q.0 ≡ p.0 = after_white_one bytes q.0 p.0 q.2 p.2 in
    let r = Forms-one total u v p.0 p.1 q.1 p.3 (subst (λ z. Forms total v z q.1) h q.3) in
    elim (fronts_compare total us vs p.1 a b p.4 (subst (λ z. Fronts total z vs b) (sym r.1) q.4)) [
      | inl g ↦ inl (goes_on total u v us vs a b r.0 g)
      | inr g ↦ inr (goes_on total v u vs us b a (sym r.0) g)
    ]

-- after the first of further tokens, right where the bytes begin
pub front_token : (total : ℕ) (t : Token) (ts : List Token) (left b : List ℕ) → StopsAt is_white left → Fronts total left (t ∷ ts) b → (rest : List ℕ) × Forms total t left rest × Fronts total rest ts b
front_token total t ts left b ends p =
    let h : p.0 ≡ left = after_white_one left p.0 left p.2 (at_once left ends) in
    (p.1, subst (λ z. Forms total t z p.1) h p.3, p.4)

pub front_none : (total : ℕ) (left b : List ℕ) → StopsAt is_white left → Fronts total left [] b → left ≡ b
front_none total left b ends p = after_white_one left left b (at_once left ends) p

-- one token more
pub fronts_more : (total : ℕ) (ts : List Token) (bytes at rest left : List ℕ) (t : Token) → Fronts total bytes ts at → Forms total t at rest → IsAfterWhite rest left → Fronts total bytes (ts ++ t ∷ []) left
fronts_more total [] bytes at rest left t p f w = (at, rest, p, f, w)
fronts_more total (u ∷ us) bytes at rest left t p f w = (p.0, p.1, p.2, p.3, fronts_more total us p.1 at rest left t p.4 f w)

spelling_long : (t : Token) → IsFormed t → 0 < length (spelling t)
spelling_long (single number place []) f = absurd f.0
spelling_long (single word place []) f = absurd f
spelling_long t f = omega arith

-- a token takes bytes away
pub forms_shorter : (total : ℕ) (t : Token) (left rest : List ℕ) → Forms total t left rest → length rest < length left
forms_shorter total t left rest f = omega (arith, ap length f.spelled, length-append (spelling t) rest, spelling_long t f.formed)

-- a token has bytes
pub forms_some : (total : ℕ) (t : Token) (left rest : List ℕ) → Forms total t left rest → left ≡ [] → ⊥
forms_some total t left rest f e = omega (arith, forms_shorter total t left rest f, ap length e)

-- ---- one flaw at most lies in front of what is left, and no token beside it

no_shape : (b : ℕ) → begins_token b ≡ false → shape_by b ≡ None
no_shape b e = grind (arith, nat_tests)

no_shape_at : (left : List ℕ) → BeginsNoToken left → shape_at left ≡ None
no_shape_at [] h = absurd h
no_shape_at (b ∷ bs) h = no_shape b h

run_shape : (left run rest : List ℕ) → IsFirstRun left run rest → shape_at left ≡ Some (a_single number)
run_shape left run rest r = shape_at_start run rest left r.starts r.parts

-- what a flaw begins with
abbrev pub shape_for : Reason → Option Shape
shape_for BadNumber = Some (a_single number)
shape_for NumberRange = Some (a_single number)
shape_for NotUtf8 = Some (a_single text)
shape_for OpenText = Some (a_single text)
shape_for r = None

pub flaw_shape : (r : Reason) (left : List ℕ) (skip : ℕ) → IsFlaw r left skip → shape_at left ≡ shape_for r
flaw_shape BadCharacter left skip f = no_shape_at left f.0
flaw_shape BadNumber left skip f = run_shape left f.0 f.1 f.2
flaw_shape NumberRange left skip f = run_shape left f.0 f.1 f.2
flaw_shape NotUtf8 left skip f = ap shape_at f.2
flaw_shape OpenText left skip f = ap shape_at f.1
flaw_shape r left skip f = absurd f

-- ---- no token beside a flaw

one_run : (left run rest raw tail : List ℕ) → IsFirstRun left run rest → left ≡ raw ++ tail → IsTrue (list_all is_run_byte raw) → StopsAt is_run_byte tail → raw ≡ run
one_run left run rest raw tail r e taken ends = (run_split is_run_byte raw run tail rest taken ends r.taken r.ends (sym e ∙ r.parts)).0

-- no token in front of a flaw, case by case on the token
beside : (r : Reason) (total : ℕ) (t : Token) (left rest : List ℕ) (skip : ℕ) → IsFlaw r left skip → Forms total t left rest → shape_for r ≡ Some (shape_of t) → ⊥
beside BadNumber total (single number place raw) left rest skip f g e =
    f.3 (subst HasForm (one_run left f.0 f.1 raw rest f.2 g.spelled g.formed.1 g.ends) (g.formed.2.0, g.formed.2.1))
beside NumberRange total (single number place raw) left rest skip f g e =
    f.4 (subst IsInBounds (one_run left f.0 f.1 raw rest f.2 g.spelled g.formed.1 g.ends) g.formed.2)
beside NotUtf8 total (single text place raw) left rest skip f g e =
    let shut = Forms-shut total place raw left rest g f.0 f.2 in
    elim f.3 [
      | inl s ↦ f.4 (subst IsUtf8Front (ap (λ z. z ++ 34 ∷ []) (shut_one f.0 raw rest s.0 s.1 shut s.2).0 ∙ sym s.3) (IsUtf8Front-from _ (IsUtf8-at_quote raw g.formed.1)))
      | inr o ↦ shut_not_open f.0 raw rest shut o.0
    ]
beside OpenText total (single text place raw) left rest skip f g e = shut_not_open f.0 raw rest (Forms-shut total place raw left rest g f.0 f.1) f.2
beside r total t left rest skip f g e = absurd cc

pub flaw_no_token : (r : Reason) (total : ℕ) (t : Token) (left rest : List ℕ) (skip : ℕ) → IsFlaw r left skip → Forms total t left rest → ⊥
flaw_no_token r total t left rest skip f g = beside r total t left rest skip f g (sym (flaw_shape r left skip f) ∙ Forms-shape total t left rest g)

-- ---- one flaw

IsLongestUtf8-one : (bytes : List ℕ) (m n : ℕ) → IsLongestUtf8 bytes m → IsLongestUtf8 bytes n → m ≡ n
IsLongestUtf8-one bytes m n p q =
    omega (arith, p.longest n q.within q.well_formed, q.longest m p.within p.well_formed)

same_after : (a b left : List ℕ) → left ≡ 34 ∷ a → left ≡ 34 ∷ b → a ≡ b
same_after a b left p q = same_tail 34 34 a b (sym p ∙ q)

through_open : (after inside : List ℕ) → Through after inside → IsInside after → inside ≡ after
through_open after inside t o =
    elim t [ inl s ↦ absurd (shut_not_open after s.0 s.1 s.2 o) | inr e ↦ e.1 ]

-- flaws that begin alike are one flaw
alike : (r s : Reason) (left : List ℕ) (k m : ℕ) → IsFlaw r left k → IsFlaw s left m → shape_for r ≡ shape_for s → (r ≡ s) × (k ≡ m)
alike BadCharacter BadCharacter left k m p q e = (refl, p.1 ∙ sym q.1)
alike BadNumber BadNumber left k m p q e = (refl, p.4 ∙ sym q.4)
alike BadNumber NumberRange left k m p q e =
    absurd (p.3 (subst HasForm (one_run left p.0 p.1 q.0 q.1 p.2 q.2.parts q.2.taken q.2.ends) q.3))
alike NumberRange BadNumber left k m p q e =
    absurd (q.3 (subst HasForm (one_run left q.0 q.1 p.0 p.1 q.2 p.2.parts p.2.taken p.2.ends) p.3))
alike NumberRange NumberRange left k m p q e = (refl, p.5 ∙ sym q.5)
alike NotUtf8 NotUtf8 left k m p q e =
    let h = same_after p.0 q.0 left p.2 q.2 in
    let n : p.5 ≡ q.5 = IsLongestUtf8-one q.0 p.5 q.5 (subst (λ z. IsLongestUtf8 z p.5) h p.6) q.6 in
    (refl, p.7 ∙ ap (λ z. 1 + z) n ∙ sym q.7)
alike NotUtf8 OpenText left k m p q e =
    let h = same_after p.0 q.0 left p.2 q.1 in
    let o = subst IsInside (sym h) q.2 in
    absurd (p.4 (subst IsUtf8Front (sym (through_open p.0 p.1 p.3 o ∙ h)) q.3))
alike OpenText NotUtf8 left k m p q e =
    let h = same_after q.0 p.0 left q.2 p.1 in
    let o = subst IsInside (sym h) p.2 in
    absurd (q.4 (subst IsUtf8Front (sym (through_open q.0 q.1 q.3 o ∙ h)) p.3))
alike OpenText OpenText left k m p q e = (refl, p.4 ∙ sym q.4)
alike r s left k m p q e = absurd (grind arith)

pub flaw_one : (r s : Reason) (left : List ℕ) (k m : ℕ) → IsFlaw r left k → IsFlaw s left m → (r ≡ s) × (k ≡ m)
flaw_one r s left k m p q = alike r s left k m p q (sym (flaw_shape r left k p) ∙ flaw_shape s left m q)

-- a flaw lies in front of something
pub flaw_some : (r : Reason) (left : List ℕ) (k : ℕ) → IsFlaw r left k → left ≡ [] → ⊥
flaw_some BadCharacter left k f e = subst BeginsNoToken e f.0
flaw_some r left k f e = let shape = ap shape_at (sym e) ∙ flaw_shape r left k f in grind arith
