-- What the scanners find is a token or a flaw.
use Rattle.std.proofs.Common.{◌≡◌, ℕ, suc, Bool, true, ◌+◌, List, [], ◌∷◌, ◌++◌, length, take, drop, refl, sym, ap, subst, ◌∙◌, append_assoc, arith, inl, inr, IsUtf8}
use Rattle.std.proofs.lemmas.List.{length-take, drop-drop, drop_at, take-append-drop}
use Rattle.std.proofs.Math.Seq.{take-add}
use Rattle.std.proofs.Math.Numerals.{one-add}
use Rattle.std.proofs.lemmas.Bool.Decides.{nat_tests}
use Rattle.std.proofs.lemmas.List.Sums.{prefix_len-le-length}
use Rattle.std.proofs.lemmas.Bool.{and_from, cases_Bool}
use Rattle.std.specs.List.{list_all, prefix_len}
use Rattle.crs_text.specs.Tokens.{IsInside, StopsAt, BeginsWith, is_quote, IsUtf8Front, IsLongestUtf8, is_letter, is_word_byte, IsWord}
use Rattle.crs_text.specs.inner.Lexing.{IsShutAt, IsLexed}
use Rattle.crs_decimal.specs.inner.Prelude.{is_run_byte, is_run_start, HasForm, IsInBounds}
use Rattle.crs_text.specs.TextFault.{IsFirstRun, IsFlaw}
use Rattle.crs_text.proofs.tokens.TokenLemmas.{letter_in_word}
use Rattle.crs_text.specs.declared.refusal.Reason.TheVariants.{BadNumber, NumberRange, NotUtf8, OpenText}
use Rattle.crs_text.specs.declared.lexing.Lexed.TheVariants.{Number, Text, Word}
use Rattle.crs_text.proofs.tokens.Utf8Lemmas.{IsUtf8-before_quote, IsUtf8-from_front_at_quote, IsLongestUtf8-longer}

pub quote_behind : (after : List ℕ) (n : ℕ) → IsShutAt after n → drop n after ≡ 34 ∷ drop (n + 1) after
quote_behind after n s = ap (drop n) s.0.parts ∙ drop_at (take n after) (34 ∷ drop (n + 1) after) n (omega (arith, length-take n after, s.1))

pub with_quote : (after : List ℕ) (n : ℕ) → IsShutAt after n → take (n + 1) after ≡ take n after ++ 34 ∷ []
with_quote after n s = take-add n 1 after ∙ ap (λ z. take n after ++ take 1 z) (quote_behind after n s)

module _ (left : List ℕ) (quote : left ≡ 34 ∷ drop 1 left) where
  rest_is : (n : ℕ) → drop (n + 1) (drop 1 left) ≡ drop (n + 2) left
  rest_is n = let k : 1 + (n + 1) ≡ n + 2 = omega arith in rw (drop-drop (n + 1) 1 left, k)

  pub lexed_text : (n : ℕ) → IsShutAt (drop 1 left) n → IsUtf8 (take (n + 1) (drop 1 left)) → IsLexed left (Text n)
  lexed_text n s u =
      let after = drop 1 left in
      let raw = take n after in
      let l : length left ≡ suc (length after) = ap length quote in (
        record {
          spelled = quote ∙ ap (λ (z : List ℕ). 34 ∷ z) (s.0.parts ∙ ap (λ z. raw ++ 34 ∷ z) (rest_is n) ∙ sym (append_assoc raw (34 ∷ []) (drop (n + 2) left)));
          formed = (s.0.inside, IsUtf8-before_quote raw [] (rw (with_quote after n s) at u));
          ends = subst (StopsAt is_quote) (rest_is n) s.0.ends;
        },
        omega (arith, l, s.1),
      )

  pub whole_at_quote : (n : ℕ) → IsShutAt (drop 1 left) n → IsUtf8Front (take (n + 1) (drop 1 left)) → IsUtf8 (take (n + 1) (drop 1 left))
  whole_at_quote n s front =
      let e = with_quote (drop 1 left) n s in
      subst IsUtf8 (sym e) (IsUtf8-from_front_at_quote (take n (drop 1 left)) (subst IsUtf8Front e front))

  pub flawed_inside : (n valid : ℕ) → IsShutAt (drop 1 left) n → ¬ (IsUtf8Front (take (n + 1) (drop 1 left))) → IsLongestUtf8 (take (n + 1) (drop 1 left)) valid → IsFlaw NotUtf8 left (valid + 1)
  flawed_inside n valid s not longest =
      let after = drop 1 left in (
        after,
        take (n + 1) after,
        quote,
        inl (take n after, drop (n + 1) after, s.0, with_quote after n s),
        not,
        valid,
        subst (λ z. IsLongestUtf8 z valid) (take-append-drop (n + 1) after) (IsLongestUtf8-longer (take (n + 1) after) (drop (n + 1) after) valid not longest),
        omega arith,
      )

  pub flawed_open : (valid : ℕ) → IsInside (drop 1 left) → ¬ (IsUtf8Front (drop 1 left)) → IsLongestUtf8 (drop 1 left) valid → IsFlaw NotUtf8 left (1 + valid)
  flawed_open valid inside not longest = (drop 1 left, drop 1 left, quote, inr (inside, refl), not, valid, longest, refl)

  pub unclosed : IsInside (drop 1 left) → IsUtf8Front (drop 1 left) → IsFlaw OpenText left 0
  unclosed inside front = (drop 1 left, quote, inside, front, refl)

-- ---- runs

pub prefix_taken : (test : ℕ → Bool) (xs : List ℕ) → list_all test (take (prefix_len test xs) xs) ≡ true
prefix_taken test [] = refl
prefix_taken test (x ∷ xs) =
    elim (cases_Bool (test x)) [ inl e ↦ rw (e, one-add) (and_from (test x) (list_all test (take (prefix_len test xs) xs)) e (prefix_taken test xs)) | inr e ↦ rw e ]

pub prefix_ends : (test : ℕ → Bool) (xs : List ℕ) → StopsAt test (drop (prefix_len test xs) xs)
prefix_ends test [] = tt
prefix_ends test (x ∷ xs) =
    elim (cases_Bool (test x)) [ inl e ↦ rw (e, one-add) (prefix_ends test xs) | inr e ↦ rw e e ]

-- what begins with a byte that the test takes begins with it in the run too
run_begins : (start test : ℕ → Bool) (xs : List ℕ) → ((b : ℕ) → start b ≡ true → test b ≡ true) → BeginsWith start xs → BeginsWith start (take (prefix_len test xs) xs)
run_begins start test [] h b = absurd b
run_begins start test (x ∷ xs) h b = rw (h x b, one-add) b

start_in_run : (b : ℕ) → is_run_start b ≡ true → is_run_byte b ≡ true
start_in_run b e = grind (arith, nat_tests)

module _ (left : List ℕ) (n : ℕ) (is_length : n ≡ prefix_len is_run_byte left) (begins : BeginsWith is_run_start left) where
  this_run : IsFirstRun left (take n left) (drop n left)
  this_run = rw is_length (record {
    parts = sym (take-append-drop (prefix_len is_run_byte left) left);
    starts = run_begins is_run_start is_run_byte left start_in_run begins;
    taken = prefix_taken is_run_byte left;
    ends = prefix_ends is_run_byte left;
  })

  pub lexed_number : IsInBounds (take n left) → IsLexed left (Number n)
  lexed_number bounds =
      (record { spelled = this_run.parts; formed = (this_run.starts, this_run.taken, bounds); ends = this_run.ends }, omega (arith, prefix_len-le-length is_run_byte left, is_length))

  pub flawed_number : ¬ (HasForm (take n left)) → IsFlaw BadNumber left 0
  flawed_number no_form = (take n left, drop n left, this_run, no_form, refl)

  pub flawed_range : HasForm (take n left) → ¬ (IsInBounds (take n left)) → IsFlaw NumberRange left 0
  flawed_range form out = (take n left, drop n left, this_run, form, out, refl)

word_taken : (xs : List ℕ) → BeginsWith is_letter xs → IsWord (take (prefix_len is_word_byte xs) xs)
word_taken [] b = absurd b
word_taken (x ∷ xs) b = rw (letter_in_word x b, one-add) (b, prefix_taken is_word_byte xs)

pub lexed_word : (left : List ℕ) (n : ℕ) → n ≡ prefix_len is_word_byte left → BeginsWith is_letter left → IsLexed left (Word n)
lexed_word left n e b =
    subst (λ z. IsLexed left (Word z)) (sym e)
    (record { spelled = sym (take-append-drop (prefix_len is_word_byte left) left); formed = word_taken left b; ends = prefix_ends is_word_byte left }, omega (arith, prefix_len-le-length is_word_byte left))
