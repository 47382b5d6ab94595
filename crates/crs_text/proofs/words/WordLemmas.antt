-- A word is one of capitals, letter case aside, where it is byte by byte.
use Rattle.std.proofs.Common.{inl, inr, ◌≡◌, ℕ, zero, suc, ◌+◌, ◌≤◌, ◌%◌, ◌^◌, cond, nat_le, take, replicate, Fits, w8, ap₂, subst, Option, None, Some, ◌<◌, ◌↔◌, ◌==◌, ◌||◌, nat_eq, bit_and, IsTrue, rules, not, Bool, true, false, if◌then◌else◌, List, [], ◌∷◌, length, map, get_or, refl, sym, ◌∙◌, ap, arith}
use Rattle.std.proofs.lemmas.List.{length-map, take_all, take-take}
use Rattle.std.proofs.lemmas.Simd.{zip2_splat, length-zip2, mask_l-mod, first_set_mask_l}
use Rattle.std.proofs.lemmas.Slice.Eq.{bytes_eq-Decides}
use Rattle.std.specs.Str.{str_to_ascii_lowercase}
use lib.Lanes.{zip2, mask_l, top, Each1}
use Rattle.crs_text.specs.inner.Runs.{first_set}
use Rattle.crs_text.specs.declared.keyword.Suspect.{Suspect}
use Rattle.std.specs.Char.{to_ascii_lowercase}
use Rattle.std.proofs.lemmas.Bool.{cases_Bool, agree_below, agree_below_at, leb-true, and_parts}
use Rattle.std.proofs.Math.Numerals.{one-add}
use Rattle.std.specs.List.{list_all, prefix_len}
use Rattle.crs_text.specs.declared.keyword.Keyword.{Keyword}
use Rattle.crs_text.specs.Keywords.{spelling_of, keyword_of}
use Rattle.crs_text.specs.inner.KeywordTable.{spelled, of_length, first_among, is_capital, IsNamed, IsSuspect, AreSuspects}
use Rattle.crs_text.proofs.words.KeywordLemmas.{keyword-spelled, keyword_of-table, same-keyword_of}

-- a byte is a capital, letter case aside, exactly where it is with the bit cleared in which the cases differ
abbrev folds : ℕ → Bool
folds c =
    not (is_capital c)
    || agree_below (λ x. nat_eq (bit_and x 223) c) (λ x. nat_eq (to_ascii_lowercase c) (to_ascii_lowercase x)) 256

all_fold : agree_below folds (λ _. true) 256 ≡ true
all_fold = refl

pub same_letter-byte : (c x : ℕ) → c < 256 → x < 256 → is_capital c ≡ true →
    nat_eq (bit_and x 223) c ≡ nat_eq (to_ascii_lowercase c) (to_ascii_lowercase x)
same_letter-byte c x less within is =
    let passes : folds c ≡ true = agree_below_at folds (λ _. true) 256 c all_fold less in
    agree_below_at (λ y. nat_eq (bit_and y 223) c) (λ y. nat_eq (to_ascii_lowercase c) (to_ascii_lowercase y)) 256 x
    (of_both (is_capital c) _ is passes) within
  where
    of_both : (a b : Bool) → a ≡ true → (not a || b) ≡ true → b ≡ true
    of_both true b p q = q
    of_both false b p q = cc

pub tested : (a b : ℕ) → IsTrue (nat_eq a b) ↔ (a ≡ b)
tested a b = (λ e. search rules, λ e. search rules)

-- no keyword has one letter
pub no_keyword : (word : List ℕ) → length word ≡ 1 → None ≡ keyword_of word
no_keyword word e = sym (ap (λ n. first_among (map spelled (of_length n)) word) e) ∙ keyword_of-table word

-- Blocks of a word and of capitals

-- how many bytes come before the first that isn't the capital in its place, letter case aside
abbrev pub same_front : List ℕ → List ℕ → ℕ
same_front [] letters = 0
same_front (b ∷ bs) [] = 0
same_front (b ∷ bs) (c ∷ cs) = if bit_and b 223 == c then suc (same_front bs cs) else 0

capital_small : (c : ℕ) → is_capital c ≡ true → c < 256
capital_small c e = let high = leb-true c 90 (and_parts (nat_le 65 c) (nat_le c 90) e).1 in omega arith

pub same_taken : (n : ℕ) (bs cs : List ℕ) → Each1 (Fits w8) bs → n ≤ same_front bs cs → list_all is_capital (take n cs) ≡ true →
    map to_ascii_lowercase (take n cs) ≡ map to_ascii_lowercase (take n bs)
same_taken zero bs cs fits less caps = refl
same_taken (suc n) [] cs fits less caps = absurd (omega arith)
same_taken (suc n) (b ∷ bs) [] fits less caps = absurd (omega arith)
same_taken (suc n) (b ∷ bs) (c ∷ cs) fits less caps =
    elim (cases_Bool (bit_and b 223 == c)) [
      | inl e ↦
          let more = rw e at less in
          let capital : is_capital c ≡ true = (and_parts (is_capital c) (list_all is_capital (take n cs)) caps).0 in
          let others = (and_parts (is_capital c) (list_all is_capital (take n cs)) caps).1 in
          let head : to_ascii_lowercase c ≡ to_ascii_lowercase b =
          (tested (to_ascii_lowercase c) (to_ascii_lowercase b)).0 (sym (same_letter-byte c b (capital_small c capital) fits.0.fits capital) ∙ e) in
          ap₂ (λ x (l : List ℕ). x ∷ l) head (same_taken n bs cs fits.1 (omega arith) others)
      | inr e ↦ absurd (omega (arith, rw e at less))
    ]

-- lanes that are set where the bytes differ
pairs : (h : ℕ → ℕ → ℕ) → ((a b : ℕ) → not (top 7 (h a b)) ≡ (a == b)) → (bs cs : List ℕ) →
    prefix_len (λ x. not (top 7 x)) (zip2 h (map (λ b. bit_and b 223) bs) cs) ≡ same_front bs cs
pairs h is [] cs = refl
pairs h is (b ∷ bs) [] = refl
pairs h is (b ∷ bs) (c ∷ cs) = ap₂ (λ t n. cond t (1 + n) 0) (is (bit_and b 223) c) (pairs h is bs cs) ∙ rw one-add

pub paired : (h : ℕ → ℕ → ℕ) → ((a b : ℕ) → not (top 7 (h a b)) ≡ (a == b)) → (bs cs : List ℕ) (r : ℕ) → length bs ≡ 16 → length cs ≡ 16 →
    r ≡ first_set (mask_l (map (top 7) (zip2 h (zip2 bit_and bs (replicate 16 223)) cs)) % 2 ^ 64) → r ≡ same_front bs cs
paired h is bs cs r long wide found =
    let z = zip2 h (map (λ b. bit_and b 223) bs) cs in
    let cleared : zip2 bit_and bs (replicate 16 223) ≡ map (λ b. bit_and b 223) bs = zip2_splat {Y = ℕ} bit_and bs 16 223 long in
    let size : length z ≡ 16 = length-zip2 h (map (λ b. bit_and b 223) bs) cs (omega (arith, length-map bs (λ b. bit_and b 223), long, wide)) ∙ length-map bs (λ b. bit_and b 223) ∙ long in
    let mask : mask_l (map (top 7) (zip2 h (zip2 bit_and bs (replicate 16 223)) cs)) % 2 ^ 64 ≡ mask_l (map (top 7) z) =
    ap (λ l. mask_l (map (top 7) (zip2 h l cs)) % 2 ^ 64) cleared ∙ mask_l-mod (map (top 7) z) 64 (omega (arith, length-map z (top 7), size)) in
    found ∙ ap first_set mask ∙ first_set_mask_l (top 7) z 16 size (omega arith) ∙ pairs h is bs cs

pub suspect_at : (ss : List Suspect) (i : ℕ) (d : Suspect) → AreSuspects ss → i < length ss → IsSuspect (get_or ss i d)
suspect_at [] i d all less = absurd (omega arith)
suspect_at (s ∷ ss) zero d all less = all.0
suspect_at (s ∷ ss) (suc i) d all less = suspect_at ss i d all.1 (omega arith)

named : (o : Option Keyword) (word : List ℕ) → IsNamed o word → keyword_of word ≡ o
named None word e = e
named (Some k) word e = (keyword-spelled k word).0 ((bytes_eq-Decides (str_to_ascii_lowercase (spelling_of k)) (str_to_ascii_lowercase word)).1 (ap str_to_ascii_lowercase (sym e)))

-- the word in front whose block is that of a suspect
pub suspect_is : (s : Suspect) (left : List ℕ) (n : ℕ) → IsSuspect s → s.length ≡ n → n ≤ 16 →
    (IsTrue (list_all is_capital (take n (take 16 s.letters.now))) → map to_ascii_lowercase (take n (take 16 s.letters.now)) ≡ map to_ascii_lowercase (take n (take 16 left))) →
    keyword_of (take n left) ≡ s.keyword
suspect_is s left n is e few same =
    let whole : take 16 s.letters.now ≡ s.letters.now = take_all 16 s.letters.now (omega (arith, is.1)) in
    let word : take n (take 16 s.letters.now) ≡ take s.length s.letters.now = ap (take n) whole ∙ ap (λ k. take k s.letters.now) (sym e) in
    let front : take n (take 16 left) ≡ take n left = take-take n 16 left few in
    let letters : map to_ascii_lowercase (take s.length s.letters.now) ≡ map to_ascii_lowercase (take n left) =
    sym (ap (map to_ascii_lowercase) word) ∙ same (subst (λ l. list_all is_capital l ≡ true) (sym word) is.2) ∙ ap (map to_ascii_lowercase) front in
    sym (same-keyword_of (take s.length s.letters.now) (take n left) letters) ∙ named s.keyword (take s.length s.letters.now) is.0
