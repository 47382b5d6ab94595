-- The keywords of a word's length have the keyword that it is, if it is one; letter case doesn't count in it, and a word
-- is a keyword exactly where it is its spelling, letter case aside.
use Rattle.std.proofs.Common.{inl, inr, ◌≡◌, ◌↔◌, ℕ, Bool, true, false, ◌==◌, IsTrue, List, [], ◌∷◌, Option, Some, None, filter, length, map, refl, sym, ap, ◌∙◌}
use Rattle.std.specs.List.{list_all, list_any}
use Rattle.std.specs.Str.{str_eq_ignore_ascii_case, str_to_ascii_lowercase}
use Rattle.std.specs.Char.{to_ascii_lowercase}
use Rattle.std.proofs.lemmas.List.{length-map}
use Rattle.std.proofs.lemmas.Bool.{agree_below_at, cases_Bool, eqb-false, and_parts, false_from_ne_true}
use Rattle.std.proofs.lemmas.Slice.Eq.{bytes_eq-Decides}
use denote.Enum.Bare.{sameb, same_true}
use denote.Enum.Declared.{rowss, tag_of}
use denote.Enum.Enum.{tag_below}
use Rattle.crs_text.specs.contracts.keyword.Keyword.{the_type}
use Rattle.crs_text.specs.declared.keyword.Keyword.{Keyword}
use Rattle.crs_text.specs.Keywords.{spelling_of, every_keyword, first_spelled, keyword_of}
use Rattle.crs_text.specs.inner.KeywordTable.{spelled, of_length, first_among}

-- two words that differ in letter case alone
abbrev Same : List ℕ → List ℕ → Type 0
Same a b = str_to_ascii_lowercase a ≡ str_to_ascii_lowercase b

same-of : (a b : List ℕ) → str_eq_ignore_ascii_case a b ≡ true → Same a b
same-of a b e = (bytes_eq-Decides (str_to_ascii_lowercase a) (str_to_ascii_lowercase b)).0 e

same-length : (a b : List ℕ) → Same a b → length a ≡ length b
same-length a b e = sym (length-map a to_ascii_lowercase) ∙ ap length e ∙ length-map b to_ascii_lowercase

-- Letter case

same-spelled : (ks : List Keyword) (a b : List ℕ) → Same a b → first_spelled ks a ≡ first_spelled ks b
same-spelled [] a b e = refl
same-spelled (k ∷ ks) a b e = rw (e, same-spelled ks a b e) refl

pub same-keyword_of : (a b : List ℕ) → Same a b → keyword_of a ≡ keyword_of b
unfolding keyword_of
same-keyword_of a b e = same-spelled every_keyword a b e

-- The look-up

other-length : (k : Keyword) (word : List ℕ) → (length (spelling_of k) == length word) ≡ false → str_eq_ignore_ascii_case (spelling_of k) word ≡ false
other-length k word e = false_from_ne_true _ (λ f. eqb-false _ _ e (same-length (spelling_of k) word (same-of (spelling_of k) word f)))

by-length : (ks : List Keyword) (word : List ℕ) →
    first_among (map spelled (filter (λ k. length (spelling_of k) == length word) ks)) word ≡ first_spelled ks word
by-length [] word = refl
by-length (k ∷ ks) word = elim (cases_Bool (length (spelling_of k) == length word)) [
  | inl e ↦ rw (e, by-length ks word)
  | inr e ↦ rw (e, by-length ks word, other-length k word e)
]

pub keyword_of-table : (word : List ℕ) → first_among (map spelled (of_length (length word))) word ≡ keyword_of word
unfolding keyword_of
keyword_of-table word = by-length every_keyword word

-- A keyword is its spelling

spelled-of : (ks : List Keyword) (word : List ℕ) (k : Keyword) → first_spelled ks word ≡ Some k →
    str_eq_ignore_ascii_case (spelling_of k) word ≡ true
spelled-of [] word k e = cc
spelled-of (j ∷ ks) word k e =
    elim (cases_Bool (str_eq_ignore_ascii_case (spelling_of j) word)) [
      | inl t ↦ let same : j ≡ k = cc (rw t at e) in rw (← same) t
      | inr f ↦ spelled-of ks word k (rw f at e)
    ]

-- whether the answer is this keyword
abbrev answers : Option Keyword → Keyword → Bool
answers None k = false
answers (Some j) k = sameb the_type j k

answers-true : (o : Option Keyword) (k : Keyword) → answers o k ≡ true → o ≡ Some k
answers-true None k e = cc
answers-true (Some j) k e = ap Some (same_true the_type tt j k e)

-- a keyword is the one of its spelling
abbrev own : Keyword → Bool
own k = answers (keyword_of (spelling_of k)) k

owned : list_all own every_keyword ≡ true
unfolding keyword_of
owned = refl

-- each keyword is among all: by its number
listed : (k : Keyword) → list_any (λ j. sameb the_type j k) every_keyword ≡ true
listed k =
    agree_below_at (λ n. list_any (λ j. tag_of the_type j == n) every_keyword) (λ _. true) (length (rowss the_type.parts)) (tag_of the_type k) refl
    (tag_below (rowss the_type.parts) (the_type.to k))

-- what all pass, each passes
passes : (test : Keyword → Bool) (ks : List Keyword) (k : Keyword) → list_all test ks ≡ true →
    list_any (λ j. sameb the_type j k) ks ≡ true → test k ≡ true
passes test [] k all e = cc
passes test (j ∷ js) k all e =
    elim (cases_Bool (sameb the_type j k)) [
      | inl same ↦ rw (← same_true the_type tt j k same) (and_parts (test j) (list_all test js) all).0
      | inr other ↦ passes test js k (and_parts (test j) (list_all test js) all).1 (rw other at e)
    ]

spelled-by : (k : Keyword) (word : List ℕ) → keyword_of word ≡ Some k →
    IsTrue (str_eq_ignore_ascii_case (spelling_of k) word)
unfolding keyword_of
spelled-by k word e = spelled-of every_keyword word k e

pub keyword-spelled : (k : Keyword) (word : List ℕ) →
    IsTrue (str_eq_ignore_ascii_case (spelling_of k) word) ↔ (keyword_of word ≡ Some k)
keyword-spelled k word = (
  λ e. sym (same-keyword_of (spelling_of k) word (same-of (spelling_of k) word e))
      ∙ answers-true (keyword_of (spelling_of k)) k (passes own every_keyword k owned (listed k)),
  spelled-by k word,
)
