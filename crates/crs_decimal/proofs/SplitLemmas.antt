-- A number's bytes are cut into its parts, and into no others.
use Rattle.std.proofs.Common.{◌≡◌, ℕ, ◌<◌, ◌==◌, ◌||◌, Bool, true, false, List, [], ◌∷◌, ◌++◌, length, Option, Some, None, refl, ap, sym, subst, ◌∙◌, arith, append_assoc}
use Rattle.std.specs.List.{prefix_len, list_all}
use Rattle.std.proofs.lemmas.Bool.{and_parts, and_from}
use Rattle.std.proofs.lemmas.Bool.Decides.{nat_tests}
use Rattle.std.proofs.lemmas.List.{take-append-drop, append-nil, take_at, drop_at}
use Rattle.std.proofs.lemmas.List.Folds.{list_all-append}
use Rattle.std.proofs.lemmas.List.Sums.{take_while-cons}
use Rattle.crs_decimal.specs.inner.Cut.{IsExponentWhole, IsExponentCut}
use Rattle.crs_decimal.specs.Numbers.{is_minus, is_below, exponent_digits, Sign, unsigned, plus, minus, sign_text, Exponent, Parts, fraction_text, exponent_text, parts_text, is_digit, AreDigits, fraction_digits, mantissa, IsExponent, IsForm, SpellsNumber, HasForm}
use Rattle.crs_decimal.specs.inner.Split.{is_exponent_letter, leading_digits, behind_digits, sign_of, behind_sign, fraction_of, behind_fraction, exponent_of, behind_exponent, behind_whole, behind_mantissa, parts_of, behind_parts, HasExponentDigits, IsCutWhole}

-- ---- bytes are the text of their parts, and what is left

sign_joined : (bs : List ℕ) → sign_text (sign_of bs) ++ behind_sign bs ≡ bs
sign_joined bs = grind (arith, nat_tests)

front_joined : (bs : List ℕ) → leading_digits bs ++ behind_digits bs ≡ bs
front_joined bs = take-append-drop (prefix_len is_digit bs) bs

fraction_joined : (bs : List ℕ) → fraction_text (fraction_of bs) ++ behind_fraction bs ≡ bs
fraction_joined bs = grind (arith, nat_tests, front_joined)

exponent_joined : (bs : List ℕ) → exponent_text (exponent_of bs) ++ behind_exponent bs ≡ bs
exponent_joined [] = refl
exponent_joined (b ∷ bs) = cut (simp append_assoc (rw (front_joined (behind_sign bs), sign_joined bs)))
  where
    cut : (sign_text (sign_of bs) ++ leading_digits (behind_sign bs)) ++ behind_digits (behind_sign bs) ≡ bs →
        exponent_text (exponent_of (b ∷ bs)) ++ behind_exponent (b ∷ bs) ≡ b ∷ bs
    cut joined = grind arith

pub parts_joined : (bs : List ℕ) → parts_text (parts_of bs) ++ behind_parts bs ≡ bs
parts_joined bs =
    simp append_assoc (rw (exponent_joined (behind_mantissa bs), fraction_joined (behind_whole bs), front_joined (behind_sign bs), sign_joined bs))

-- ---- the digits that are cut off are digits

pub front_digits : (bs : List ℕ) → AreDigits (leading_digits bs)
front_digits [] = refl
front_digits (b ∷ bs) = next (front_digits bs)
  where
    next : AreDigits (leading_digits bs) → AreDigits (leading_digits (b ∷ bs))
    next h = grind (arith, take_while-cons is_digit b bs)

pub all_append : (p : ℕ → Bool) (xs ys : List ℕ) → list_all p xs ≡ true → list_all p ys ≡ true → list_all p (xs ++ ys) ≡ true
all_append p xs ys g h = list_all-append p xs ys ∙ and_from _ _ g h

pub digits-append : (xs ys : List ℕ) → AreDigits xs → AreDigits ys → AreDigits (xs ++ ys)
digits-append = all_append is_digit

pub digits_parts : (xs ys : List ℕ) → AreDigits (xs ++ ys) → AreDigits xs × AreDigits ys
digits_parts xs ys p = and_parts (list_all is_digit xs) (list_all is_digit ys) (sym (list_all-append is_digit xs ys) ∙ p)

fraction_are_digits : (bs : List ℕ) → AreDigits (fraction_digits (fraction_of bs))
fraction_are_digits bs = grind (arith, front_digits)

exponent_form : (bs : List ℕ) → HasExponentDigits (exponent_of bs) → IsExponent (exponent_of bs)
exponent_form bs h = grind (arith, front_digits)

pub parts_form : (bs : List ℕ) → IsCutWhole bs → IsForm (parts_of bs)
parts_form bs h = record {
  digits = digits-append (leading_digits (behind_sign bs)) (fraction_digits (fraction_of (behind_whole bs))) (front_digits (behind_sign bs)) (fraction_are_digits (behind_whole bs));
  some = h.some;
  exponent = exponent_form (behind_mantissa bs) h.exponent;
}

pub spells_parts : (bs : List ℕ) → IsCutWhole bs → SpellsNumber bs (parts_of bs)
spells_parts bs h =
    (sym (parts_joined bs) ∙ ap (λ r. parts_text (parts_of bs) ++ r) h.all ∙ append-nil (parts_text (parts_of bs)), parts_form bs h)

-- ---- the text of parts is cut into those parts

starts_digit : List ℕ → Bool
starts_digit [] = false
starts_digit (b ∷ bs) = is_digit b

starts_sign : List ℕ → Bool
starts_sign [] = false
starts_sign (b ∷ bs) = b == 43 || b == 45

front_all : (ds r : List ℕ) → AreDigits ds → starts_digit r ≡ false → prefix_len is_digit (ds ++ r) ≡ length ds
unfolding starts_digit
front_all [] [] p q = refl
front_all [] (b ∷ bs) p q = rw q refl
front_all (d ∷ ds) r p q =
    let h = and_parts (is_digit d) (list_all is_digit ds) p in
    rw h.0 (omega (arith, front_all ds r h.1 q))

front_cut : (ds r : List ℕ) → AreDigits ds → starts_digit r ≡ false → (leading_digits (ds ++ r) ≡ ds) × (behind_digits (ds ++ r) ≡ r)
front_cut ds r p q = rw (front_all ds r p q) (take_at ds r (length ds) refl, drop_at ds r (length ds) refl)

sign_stops : (r : List ℕ) → starts_sign r ≡ false → (sign_of r ≡ unsigned) × (behind_sign r ≡ r)
unfolding starts_sign
sign_stops r h = grind (arith, nat_tests)

sign_cut_off : (s : Sign) (r : List ℕ) → starts_sign r ≡ false → (sign_of (sign_text s ++ r) ≡ s) × (behind_sign (sign_text s ++ r) ≡ r)
sign_cut_off unsigned r h = sign_stops r h
sign_cut_off plus r h = (refl, refl)
sign_cut_off minus r h = (refl, refl)

digit_no_sign : (b : ℕ) → is_digit b ≡ true → (b == 43 || b == 45) ≡ false
digit_no_sign b h = grind (arith, nat_tests)

digits_no_sign : (ds r : List ℕ) → AreDigits ds → 0 < length ds → starts_sign (ds ++ r) ≡ false
unfolding starts_sign
digits_no_sign [] r p h = absurd (omega arith)
digits_no_sign (d ∷ ds) r p h = digit_no_sign d (and_parts (is_digit d) (list_all is_digit ds) p).0

-- an exponent starts with no digit and no period
exponent_start : (e : Option Exponent) → IsExponent e → (starts_digit (exponent_text e) ≡ false) × (fraction_of (exponent_text e) ≡ None) × (behind_fraction (exponent_text e) ≡ exponent_text e)
unfolding starts_digit
exponent_start e h = grind (arith, nat_tests)

exponent_cut_off : (e : Option Exponent) → IsExponent e → (exponent_of (exponent_text e) ≡ e) × (behind_exponent (exponent_text e) ≡ [])
exponent_cut_off None h = (refl, refl)
exponent_cut_off (Some e) h =
    let s = sign_cut_off e.sign e.digits (rw append-nil at (digits_no_sign e.digits [] h.1 h.2)) in
    let f = front_cut e.digits [] h.1 (unfold starts_digit in refl) in
    let digits : leading_digits e.digits ≡ e.digits = rw append-nil at f.0 in
    let rest : behind_digits e.digits ≡ [] = rw append-nil at f.1 in
    rw (h.0, s.0, s.1, digits, rest) (refl, refl)

-- bytes that begin with an exponent's letter are an exponent where digits alone follow its sign
pub exponent_whole : (letter : ℕ) (bs : List ℕ) → is_exponent_letter letter ≡ true → AreDigits (behind_sign bs) → 0 < length (behind_sign bs) →
    IsExponentWhole (letter ∷ bs) × IsExponentCut (letter ∷ bs) (is_minus (sign_of bs)) (behind_sign bs)
exponent_whole letter bs is digits some =
    let f = front_cut (behind_sign bs) [] digits (unfold starts_digit in refl) in
    let own : leading_digits (behind_sign bs) ≡ behind_sign bs = rw append-nil at f.0 in
    let none : behind_digits (behind_sign bs) ≡ [] = rw append-nil at f.1 in
    let e : exponent_of (letter ∷ bs) ≡ Some (record { letter = letter; sign = sign_of bs; digits = behind_sign bs }) = rw (is, own) refl in (
      (rw is none, subst HasExponentDigits (sym e) some),
      record { below_is = sym (ap is_below e); are_those = sym (ap exponent_digits e); are_digits = digits },
    )

-- and nowhere else
pub whole_exponent : (letter : ℕ) (bs : List ℕ) → is_exponent_letter letter ≡ true → IsExponentWhole (letter ∷ bs) →
    AreDigits (behind_sign bs) × (0 < length (behind_sign bs))
whole_exponent letter bs is h =
    let w = rw is at h in
    let own : leading_digits (behind_sign bs) ≡ behind_sign bs =
    sym (append-nil (leading_digits (behind_sign bs))) ∙ ap (λ r. leading_digits (behind_sign bs) ++ r) (sym w.0) ∙ front_joined (behind_sign bs) in
    (subst AreDigits own (front_digits (behind_sign bs)), subst (λ (ds : List ℕ). 0 < length ds) own w.1)

-- a fraction starts with no digit, and with a sign only if what follows it does
fraction_start : (f : Option (List ℕ)) (r : List ℕ) → starts_digit r ≡ false → starts_digit (fraction_text f ++ r) ≡ false
unfolding starts_digit
fraction_start None r h = h
fraction_start (Some ds) r h = refl

fraction_cut_off : (f : Option (List ℕ)) (r : List ℕ) → AreDigits (fraction_digits f) → starts_digit r ≡ false → fraction_of r ≡ None → behind_fraction r ≡ r → (fraction_of (fraction_text f ++ r) ≡ f) × (behind_fraction (fraction_text f ++ r) ≡ r)
fraction_cut_off None r d h n b = (n, b)
fraction_cut_off (Some ds) r d h n b = let c = front_cut ds r d h in (ap (λ x. Some x) c.0, c.1)

-- what follows the sign is a digit or a period
mantissa_start : (ds : List ℕ) (f : Option (List ℕ)) (r : List ℕ) → AreDigits ds → 0 < length (ds ++ fraction_digits f) → starts_sign (ds ++ (fraction_text f ++ r)) ≡ false
unfolding starts_sign
mantissa_start [] None r d h = absurd (omega arith)
mantissa_start [] (Some fs) r d h = refl
mantissa_start (x ∷ xs) f r d h = digit_no_sign x (and_parts (is_digit x) (list_all is_digit xs) d).0

text_cut_off : (p : Parts) → IsForm p → (parts_of (parts_text p) ≡ p) × (behind_parts (parts_text p) ≡ [])
text_cut_off p h =
    let e = exponent_text p.exponent in
    let f = fraction_text p.fraction in
    let d = digits_parts p.whole (fraction_digits p.fraction) h.digits in
    let es = exponent_start p.exponent h.exponent in
    let ec = exponent_cut_off p.exponent h.exponent in
    let fc = fraction_cut_off p.fraction e d.1 es.0 es.1 es.2 in
    let wc = front_cut p.whole (f ++ e) d.0 (fraction_start p.fraction e es.0) in
    let sc = sign_cut_off p.sign (p.whole ++ (f ++ e)) (mantissa_start p.whole p.fraction e d.0 h.some) in
    let t : parts_text p ≡ sign_text p.sign ++ (p.whole ++ (f ++ e)) = simp append_assoc in
    rw (t, sc.0, sc.1, wc.0, wc.1, fc.0, fc.1, ec.0, ec.1) (refl, refl)

pub parts_only : (bs : List ℕ) (p : Parts) → SpellsNumber bs p → p ≡ parts_of bs
parts_only bs p h = sym (ap parts_of h.0 ∙ (text_cut_off p h.1).0)

spelled_whole : (p : Parts) → IsForm p → IsCutWhole (parts_text p)
spelled_whole p h =
    let c = text_cut_off p h in
    let exponent : (e : Option Exponent) → IsExponent e → HasExponentDigits e = λ e g. grind arith in
    record {
      all = c.1;
      some = subst (λ (q : Parts). 0 < length (mantissa q)) (sym c.0) h.some;
      exponent = subst (λ (q : Parts). HasExponentDigits q.exponent) (sym c.0) (exponent p.exponent h.exponent);
    }

pub form_whole : (bs : List ℕ) → HasForm bs → IsCutWhole bs
form_whole bs h = subst IsCutWhole (sym h.1.0) (spelled_whole h.0 h.1.1)

pub parts_one : (bs : List ℕ) (p q : Parts) → SpellsNumber bs p → SpellsNumber bs q → p ≡ q
parts_one bs p q g h = parts_only bs p g ∙ sym (parts_only bs q h)
