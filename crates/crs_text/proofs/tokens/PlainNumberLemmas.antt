-- A sign or none, digits, a fraction or none: with at most 38 digits that is a number in bounds, whatever the digits are.
use Rattle.std.proofs.Common.{◌≡◌, ℕ, ◌+◌, ◌<◌, ◌≤◌, IsTrue, List, [], ◌∷◌, ◌++◌, length, take, drop, Option, None, Some, refl, sym, ap, subst, ◌∙◌, append_assoc, arith}
use Rattle.std.specs.List.{list_all, prefix_len}
use Rattle.std.proofs.lemmas.Bool.{and_from}
use Rattle.std.proofs.lemmas.List.{length-append, length-take, append-nil, take-append-drop, take_at, drop_at, drop-drop}
use Rattle.std.proofs.lemmas.List.Folds.{list_all-append}
use Rattle.std.proofs.lemmas.List.Sums.{prefix_len-le-length}
use Rattle.crs_decimal.specs.inner.Prelude.{unsigned, sign_text, fraction_text, fraction_digits, Parts, IsForm, HasForm, AreDigits, mantissa, parts_text, is_digit, is_run_byte, is_run_start, IsRun, SpellsNumber, IsInBounds}
use Rattle.crs_text.specs.Tokens.{StopsAt, BeginsWith}
use Rattle.crs_text.specs.inner.Runs.{IsOneDigit, IsSigned, IsFractional}
use Rattle.crs_text.specs.inner.Lexing.{IsLexed}
use Rattle.crs_text.specs.declared.lexing.Lexed.TheVariants.{Number}
use Rattle.crs_text.proofs.tokens.LexedLemmas.{prefix_taken}

-- the laws of numbers that are cited
abbrev FewAreBounded : Type 0
FewAreBounded = (bytes : List ℕ) (p : Parts) → SpellsNumber bytes p → p.exponent ≡ None → length (mantissa p) ≤ 38 → IsInBounds bytes

abbrev FormsAreRuns : Type 0
FormsAreRuns = (bytes : List ℕ) → HasForm bytes → IsRun bytes

of_run : (raw : List ℕ) → IsRun raw → BeginsWith is_run_start raw × IsTrue (list_all is_run_byte raw)
of_run [] h = absurd h
of_run (b ∷ bs) h = h

-- what is left begins with the text of these parts, and then no byte of a number follows
number_front : FewAreBounded → FormsAreRuns → (p : Parts) → IsForm p → p.exponent ≡ None → length (mantissa p) ≤ 38 → (left rest : List ℕ) (n : ℕ) →
    left ≡ parts_text p ++ rest → n ≡ length (parts_text p) → StopsAt is_run_byte rest → IsLexed left (Number n)
number_front bounded runs p form none few left rest n e l ends =
    let raw = parts_text p in
    let run = of_run raw (runs raw (p, (refl, form))) in
    let bounds : IsInBounds raw = bounded raw p (refl, form) none few in
    let front : raw ≡ take n left = sym (ap (take n) e ∙ take_at raw rest n (sym l)) in
    let behind : rest ≡ drop n left = sym (ap (drop n) e ∙ drop_at raw rest n (sym l)) in (
      record {
        spelled = sym (take-append-drop n left);
        formed = subst (λ (z : List ℕ). BeginsWith is_run_start z × IsTrue (list_all is_run_byte z) × IsInBounds z) front (run.0, run.1, bounds);
        ends = subst (StopsAt is_run_byte) behind ends;
      },
      omega (arith, l, ap length e, length-append raw rest),
    )

fraction_short : (fraction : Option (List ℕ)) → length (fraction_digits fraction) ≤ length (fraction_text fraction)
fraction_short None = omega arith
fraction_short (Some ds) = omega arith

joined : (left sign whole fraction rest one two : List ℕ) → left ≡ sign ++ one → one ≡ whole ++ two → two ≡ fraction ++ rest → left ≡ (((sign ++ whole) ++ fraction) ++ []) ++ rest
joined left sign whole fraction rest one two a b c = rw (a, b, c) (simp (append_assoc, append-nil))

pub plain_lexed : FewAreBounded → FormsAreRuns → (left : List ℕ) (s w f : ℕ) → IsSigned left s → w ≡ prefix_len is_digit (drop s left) → 0 < w → IsFractional (drop w (drop s left)) f → w + f ≤ 38
    → StopsAt is_run_byte (drop f (drop w (drop s left))) → IsLexed left (Number (s + w + f))
plain_lexed bounded runs left s w f (sign, sign_is, sign_long) w_is some (fraction, fraction_is, others, fraction_long) few ends =
    let one = drop s left in
    let two = drop w one in
    let whole = take w one in
    let rest = drop f two in
    let p : Parts = record { sign = sign; whole = whole; fraction = fraction; exponent = None } in
    let long : length whole ≡ w = omega (arith, length-take w one, prefix_len-le-length is_digit one, w_is) in
    let digits : AreDigits whole = subst (λ k. AreDigits (take k one)) (sym w_is) (prefix_taken is_digit one) in
    let count = length-append whole (fraction_digits fraction) in
    let form : IsForm p = record {
      digits = list_all-append is_digit whole (fraction_digits fraction) ∙ and_from _ _ digits others;
      some = omega (arith, long, some);
      exponent = tt;
    } in
    let split : left ≡ parts_text p ++ rest = joined left (sign_text sign) whole (fraction_text fraction) rest one two sign_is (sym (take-append-drop w one)) fraction_is in
    let size : s + w + f ≡ length (parts_text p) =
    omega (arith, sign_long, long, fraction_long, length-append ((sign_text sign ++ whole) ++ fraction_text fraction) [], length-append (sign_text sign ++ whole) (fraction_text fraction), length-append (sign_text sign) whole) in
    number_front bounded runs p form refl (omega (arith, long, few, fraction_long, fraction_short fraction)) left rest (s + w + f) split size ends

-- one digit by itself
pub one_digit_lexed : FewAreBounded → FormsAreRuns → (left : List ℕ) → IsOneDigit left → IsLexed left (Number 1)
one_digit_lexed bounded runs [] h = absurd h
one_digit_lexed bounded runs (b ∷ rest) h =
    number_front bounded runs (record { sign = unsigned; whole = b ∷ []; fraction = None; exponent = None })
    (record { digits = and_from _ _ h.0 refl; some = omega arith; exponent = tt }) refl (omega arith) (b ∷ rest) rest 1 refl refl h.1

-- a period and the digits behind it
pub fraction_front : (left : List ℕ) (n : ℕ) → left ≡ 46 ∷ drop 1 left → n ≡ prefix_len is_digit (drop 1 left) → IsFractional left (1 + n)
fraction_front left n e n_is =
    let one = drop 1 left in (
      Some (take n one),
      e ∙ ap (λ (z : List ℕ). 46 ∷ z) (sym (take-append-drop n one) ∙ ap (λ z. take n one ++ z) (drop-drop n 1 left)),
      subst (λ k. AreDigits (take k one)) (sym n_is) (prefix_taken is_digit one),
      omega (arith, length-take n one, prefix_len-le-length is_digit one, n_is),
    )
