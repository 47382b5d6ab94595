-- The bytes of a number are bytes of a run.
use Rattle.std.proofs.Common.{◌≡◌, ℕ, ◌<◌, ◌==◌, ◌||◌, inl, inr, Bool, true, List, [], ◌∷◌, ◌++◌, length, Option, Some, None, refl, arith}
use Rattle.std.specs.List.{list_all}
use Rattle.std.proofs.lemmas.Bool.{and_parts, and_from, or_cases, eqb-true}
use Rattle.crs_decimal.specs.Numbers.{Sign, unsigned, plus, minus, sign_text, Exponent, Parts, fraction_text, exponent_text, parts_text, is_digit, AreDigits, fraction_digits, IsExponent, IsForm, HasForm, is_run_byte}
use Rattle.crs_decimal.specs.inner.Run.{IsRun}
use Rattle.crs_decimal.proofs.SplitLemmas.{all_append, digits_parts}

pub digits_pass : (p : ℕ → Bool) → ((d : ℕ) → is_digit d ≡ true → p d ≡ true) → (ds : List ℕ) → AreDigits ds → list_all p ds ≡ true
digits_pass p q [] h = refl
digits_pass p q (d ∷ ds) h =
    let r = and_parts (is_digit d) (list_all is_digit ds) h in and_from _ _ (q d r.0) (digits_pass p q ds r.1)

digit_is_run_byte : (d : ℕ) → is_digit d ≡ true → is_run_byte d ≡ true
digit_is_run_byte d h = rw h refl

sign_run : (s : Sign) → list_all is_run_byte (sign_text s) ≡ true
sign_run s = grind arith

letter_run : (b : ℕ) → (b == 69 || b == 101) ≡ true → is_run_byte b ≡ true
letter_run b h = elim (or_cases (b == 69) (b == 101) h) [ inl e ↦ rw (eqb-true b 69 e) refl | inr e ↦ rw (eqb-true b 101 e) refl ]

exponent_run : (e : Option Exponent) → IsExponent e → list_all is_run_byte (exponent_text e) ≡ true
exponent_run None h = refl
exponent_run (Some e) h =
    and_from _ _ (letter_run e.letter h.0) (all_append is_run_byte (sign_text e.sign) e.digits (sign_run e.sign) (digits_pass is_run_byte digit_is_run_byte e.digits h.1))

-- the bytes of parts pass a test that digits and a period pass, where those of the sign and the exponent do
parts_pass : (pass : ℕ → Bool) → ((d : ℕ) → is_digit d ≡ true → pass d ≡ true) → pass 46 ≡ true → (p : Parts) → IsForm p →
    list_all pass (sign_text p.sign) ≡ true → list_all pass (exponent_text p.exponent) ≡ true → list_all pass (parts_text p) ≡ true
parts_pass pass digit period p h sign exponent =
    all_append pass (sign_text p.sign ++ p.whole ++ fraction_text p.fraction) (exponent_text p.exponent)
    (all_append pass (sign_text p.sign ++ p.whole) (fraction_text p.fraction)
    (all_append pass (sign_text p.sign) p.whole sign (digits_pass pass digit p.whole d.0)) (fraction p.fraction d.1)) exponent
  where
    d : AreDigits p.whole × AreDigits (fraction_digits p.fraction)
    d = digits_parts p.whole (fraction_digits p.fraction) h.digits

    fraction : (f : Option (List ℕ)) → AreDigits (fraction_digits f) → list_all pass (fraction_text f) ≡ true
    fraction None g = refl
    fraction (Some ds) g = and_from _ _ period (digits_pass pass digit ds g)

text_run : (s : Sign) (w : List ℕ) (f : Option (List ℕ)) (e : List ℕ) → AreDigits w → 0 < length (w ++ fraction_digits f) →
    list_all is_run_byte (sign_text s ++ w ++ fraction_text f ++ e) ≡ true → IsRun (sign_text s ++ w ++ fraction_text f ++ e)
text_run plus w f e d h pass = (refl, pass)
text_run minus w f e d h pass = (refl, pass)
text_run unsigned [] None e d h pass = absurd (omega arith)
text_run unsigned [] (Some ds) e d h pass = (refl, pass)
text_run unsigned (x ∷ xs) f e d h pass = (rw (and_parts (is_digit x) (list_all is_digit xs) d).0, pass)

pub form_is_run : (bs : List ℕ) → HasForm bs → IsRun bs
form_is_run bs (p, h) =
    let d = digits_parts p.whole (fraction_digits p.fraction) h.1.digits in
    rw h.0 (text_run p.sign p.whole p.fraction (exponent_text p.exponent) d.0 h.1.some
    (parts_pass is_run_byte digit_is_run_byte refl p h.1 (sign_run p.sign) (exponent_run p.exponent h.1.exponent)))
