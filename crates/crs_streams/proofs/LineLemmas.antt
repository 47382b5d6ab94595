-- The lines of some bytes: there is one way to cut them, and it is that of `bstr`.
use Rattle.std.proofs.Common.{◌≡◌, ◌≢◌, ◌⊎◌, ◌+◌, ◌-◌, ◌<◌, ◌≤◌, ◌++◌, ◌∷◌, [], ℕ, zero, suc, List, Bool, false, length, take, map, inl, inr, ap, subst, sym, refl, ◌∙◌, arith, length-append, eq-eqb, ◌==◌, ◌&&◌, nat_lt, slice_index}
use Rattle.std.proofs.Math.Seq.{take-append-add, drop-append-add}
use Rattle.std.proofs.lemmas.Bool.{cases_Bool, cond-false, cond-true, eqb-true, lt-ltb, false_from_ne_true, false≢true}
use Rattle.std.proofs.lemmas.List.{append_cancel_right, drop_all, get_or_at, take_all, take_at}
use Rattle.bstr.specs.Text.{line_len, lines_of, no_cr, without_terminator}
use Rattle.bstr.proofs.lemmas.LineLemmas.{lines-nil, lines-step}
use Rattle.crs_streams.specs.Lines.{AreLines, HasNoFeed, IsTextOf}

pub nil-cons : {A : Type 0} (x : A) (xs : List A) → [] ≡ x ∷ xs → ⊥
nil-cons x xs h = cc

pub head-is : {a b : ℕ} {xs ys : List ℕ} → a ∷ xs ≡ b ∷ ys → a ≡ b
head-is h = cc

pub tail-is : {a b : ℕ} {xs ys : List ℕ} → a ∷ xs ≡ b ∷ ys → xs ≡ ys
tail-is h = cc

pub head-tail : {A : Type 0} {a b : A} {xs ys : List A} → a ≡ b → xs ≡ ys → a ∷ xs ≡ b ∷ ys
head-tail h t = λ i. h i ∷ t i

nil-behind : (bs : List ℕ) (b : ℕ) (rest : List ℕ) → [] ≡ bs ++ b ∷ rest → ⊥
nil-behind [] b rest e = nil-cons b rest e
nil-behind (x ∷ bs) b rest e = nil-cons x (bs ++ b ∷ rest) e

pub feed-test : (b : ℕ) (bs : List ℕ) → HasNoFeed (b ∷ bs) → (b == 10) ≡ false
feed-test b bs plain = false_from_ne_true (b == 10) (λ is. false≢true (rw is at plain))

pub feed-rest : (b : ℕ) (bs : List ℕ) → HasNoFeed (b ∷ bs) → HasNoFeed bs
feed-rest b bs plain = rw (feed-test b bs plain) at plain

pub feed-more : (b : ℕ) (bs : List ℕ) → (b == 10) ≡ false → HasNoFeed bs → HasNoFeed (b ∷ bs)
feed-more b bs test plain = rw test plain

-- there is a feed at that place
feed-there : (line rest : List ℕ) → HasNoFeed (line ++ 10 ∷ rest) → ⊥
feed-there [] rest plain = false≢true plain
feed-there (b ∷ bs) rest plain = feed-there bs rest (feed-rest b (bs ++ 10 ∷ rest) plain)

not-feed : (b : ℕ) (bs : List ℕ) → HasNoFeed (b ∷ bs) → b ≡ 10 → ⊥
not-feed b bs plain is = false≢true (sym (feed-test b bs plain) ∙ eq-eqb b 10 is)

-- bytes are cut at their first feed in one way
cut-one : (line other rest left : List ℕ) → HasNoFeed line → HasNoFeed other → line ++ 10 ∷ rest ≡ other ++ 10 ∷ left
    → (line ≡ other) × (rest ≡ left)
cut-one [] [] rest left p q e = (refl, tail-is e)
cut-one [] (b ∷ bs) rest left p q e = absurd (not-feed b bs q (sym (head-is e)))
cut-one (a ∷ more) [] rest left p q e = absurd (not-feed a more p (head-is e))
cut-one (a ∷ more) (b ∷ bs) rest left p q e =
    let h = cut-one more bs rest left (feed-rest a more p) (feed-rest b bs q) (tail-is e) in (head-tail (head-is e) h.0, h.1)

text-one : (line a b : List ℕ) → IsTextOf line a → IsTextOf line b → a ≡ b
text-one line a b (inl p) (inl q) = append_cancel_right a b (13 ∷ []) (sym p ∙ q)
text-one line a b (inl p) (inr (q, none)) = absurd (none (a, p))
text-one line a b (inr (p, none)) (inl q) = absurd (none (b, q))
text-one line a b (inr (p, none)) (inr (q, other)) = sym p ∙ q

pub lines-one : (bytes : List ℕ) (a b : List (List ℕ)) → AreLines bytes a → AreLines bytes b → a ≡ b
lines-one bytes [] [] p q = refl
lines-one bytes [] (u ∷ us) p (inl (line, rest, e, plain, text, more)) = absurd (nil-behind line 10 rest (sym p ∙ e))
lines-one bytes [] (u ∷ us) p (inr (some, plain, is, end)) = absurd (some p)
lines-one bytes (t ∷ ts) [] (inl (line, rest, e, plain, text, more)) q = absurd (nil-behind line 10 rest (sym q ∙ e))
lines-one bytes (t ∷ ts) [] (inr (some, plain, is, end)) q = absurd (some q)
lines-one bytes (t ∷ ts) (u ∷ us) (inl (line, rest, e, plain, text, more))
    (inl (other, left, f, bare, word, further)) =
    let h = cut-one line other rest left plain bare (sym e ∙ f) in
    head-tail (text-one other t u (rw h.0 at text) word) (lines-one left ts us (rw h.1 at more) further)
lines-one bytes (t ∷ ts) (u ∷ us) (inl (line, rest, e, plain, text, more)) (inr (some, bare, is, end)) =
    absurd (feed-there line rest (rw e at bare))
lines-one bytes (t ∷ ts) (u ∷ us) (inr (some, bare, is, end)) (inl (line, rest, e, plain, text, more)) =
    absurd (feed-there line rest (rw e at bare))
lines-one bytes (t ∷ ts) (u ∷ us) (inr (some, bare, is, end)) (inr (other, plain, too, last)) =
    head-tail (is ∙ sym too) (end ∙ sym last)

-- the bytes have a first feed, or none
first-feed : (bytes : List ℕ) →
    ((line : List ℕ) × (rest : List ℕ) × (bytes ≡ line ++ 10 ∷ rest) × HasNoFeed line) ⊎ HasNoFeed bytes
first-feed [] = inr refl
first-feed (b ∷ bs) = elim (cases_Bool (b == 10)) [
  | inl is ↦ inl ([], bs, head-tail (eqb-true b 10 is) refl, refl)
  | inr other ↦ elim (first-feed bs) [
    | inl (line, rest, e, plain) ↦ inl (b ∷ line, rest, head-tail refl e, feed-more b line other plain)
    | inr plain ↦ inr (feed-more b bs other plain)
  ]
]

-- how `bstr` cuts the first line
len-of-line : (line rest : List ℕ) → HasNoFeed line → line_len (line ++ 10 ∷ rest) ≡ length line + 1
unfolding line_len
len-of-line [] rest plain = omega arith
len-of-line (b ∷ bs) rest plain =
    cond-false _ _ _ (feed-test b bs plain) ∙ ap suc (len-of-line bs rest (feed-rest b bs plain)) ∙ omega arith

len-of-last : (bytes : List ℕ) → HasNoFeed bytes → line_len bytes ≡ length bytes
unfolding line_len
len-of-last [] plain = refl
len-of-last (b ∷ bs) plain = cond-false _ _ _ (feed-test b bs plain) ∙ ap suc (len-of-last bs (feed-rest b bs plain))

take-front : (bytes : List ℕ) (b : ℕ) → take (length (bytes ++ b ∷ []) - 1) (bytes ++ b ∷ []) ≡ bytes
take-front bytes b = take_at bytes (b ∷ []) (length (bytes ++ b ∷ []) - 1) (omega (arith, length-append bytes (b ∷ [])))

last-byte : (bytes : List ℕ) (b : ℕ) → slice_index (bytes ++ b ∷ []) (length (bytes ++ b ∷ []) - 1) ≡ b
last-byte bytes b = get_or_at bytes b [] 0 (length (bytes ++ b ∷ []) - 1) (omega (arith, length-append bytes (b ∷ [])))

-- the test by which `bstr` looks at the last byte
abbrev ends : ℕ → List ℕ → Bool
ends c bytes = nat_lt 0 (length bytes) && slice_index bytes (length bytes - 1) == c

ends-test : (bytes : List ℕ) (b c : ℕ) → ends c (bytes ++ b ∷ []) ≡ (b == c)
ends-test bytes b c =
    rw (lt-ltb 0 (length (bytes ++ b ∷ [])) (omega (arith, length-append bytes (b ∷ []))), last-byte bytes b) refl

last-one : (a b : List ℕ) (x y : ℕ) → a ++ x ∷ [] ≡ b ++ y ∷ [] → x ≡ y
last-one a b x y e = sym (last-byte a x) ∙ (ap (λ l. slice_index l (length l - 1)) e ∙ last-byte b y)

-- a list is empty, or it has a last member
last-of : (bytes : List ℕ) → (bytes ≡ []) ⊎ ((front : List ℕ) × (b : ℕ) × (bytes ≡ front ++ b ∷ []))
last-of [] = inl refl
last-of (b ∷ bs) = elim (last-of bs) [
  | inl none ↦ inr ([], b, head-tail refl none)
  | inr (front, c, e) ↦ inr (b ∷ front, c, head-tail refl e)
]

-- a line without a return is as `no_cr` has it
pub text-of : (line : List ℕ) → IsTextOf line (no_cr line)
text-of line = elim (last-of line) [
  | inl none ↦ rw none (inr (refl, λ found. nil-behind found.0 13 [] found.1))
  | inr (front, b, e) ↦ rw e (elim (cases_Bool (b == 13)) [
    | inl is ↦
        let cut : no_cr (front ++ b ∷ []) ≡ front = cond-true _ _ _ (ends-test front b 13 ∙ is) ∙ take-front front b in
        inl (ap (λ c. front ++ c ∷ []) (eqb-true b 13 is) ∙ ap (λ l. l ++ 13 ∷ []) (sym cut))
    | inr other ↦
        let whole : no_cr (front ++ b ∷ []) ≡ front ++ b ∷ [] = cond-false _ _ _ (ends-test front b 13 ∙ other) in
        inr (sym whole, λ found. false≢true (sym other ∙ eq-eqb b 13 (last-one front found.0 b 13 found.1)))
  ])
]

line-text : (line : List ℕ) → without_terminator (line ++ 10 ∷ []) ≡ no_cr line
line-text line = cond-true _ _ _ (ends-test line 10 10) ∙ ap no_cr (take-front line 10)

last-plain : (front : List ℕ) (b : ℕ) → HasNoFeed (front ++ b ∷ []) → (b == 10) ≡ false
last-plain [] b h = feed-test b [] h
last-plain (x ∷ xs) b h = last-plain xs b (feed-rest x (xs ++ b ∷ []) h)

-- what has no feed is unchanged
last-text : (bytes : List ℕ) → HasNoFeed bytes → without_terminator bytes ≡ bytes
last-text bytes plain = elim (last-of bytes) [
  | inl none ↦ rw none refl
  | inr (front, b, e) ↦ rw e (cond-false _ _ _ (ends-test front b 10 ∙ last-plain front b (rw e at plain)))
]

-- the lines as `bstr` has them
abbrev pub cut_lines : List ℕ → List (List ℕ)
cut_lines bytes = map without_terminator (lines_of bytes)

cut-first : (line rest : List ℕ) → HasNoFeed line → cut_lines (line ++ 10 ∷ rest) ≡ no_cr line ∷ cut_lines rest
cut-first line rest plain =
    rw (
      lines-step (line ++ 10 ∷ rest) (omega (arith, length-append line (10 ∷ rest))),
      len-of-line line rest plain,
      take-append-add line (10 ∷ rest) 1,
      drop-append-add line (10 ∷ rest) 1,
      line-text line,
    ) refl

cut-last : (bytes : List ℕ) → 0 < length bytes → HasNoFeed bytes → cut_lines bytes ≡ bytes ∷ []
cut-last bytes some plain =
    rw (
      lines-step bytes some,
      len-of-last bytes plain,
      take_all (length bytes) bytes (omega arith),
      drop_all (length bytes) bytes (omega arith),
      last-text bytes plain,
      lines-nil,
    ) refl

cut-within : (n : ℕ) (bytes : List ℕ) → length bytes ≤ n → AreLines bytes (cut_lines bytes)
cut-within n [] fits = subst (AreLines []) (sym (ap (map without_terminator) lines-nil)) refl
cut-within zero (b ∷ bs) fits = absurd (omega arith)
cut-within (suc n) (b ∷ bs) fits = elim (first-feed (b ∷ bs)) [
  | inl (line, rest, e, plain) ↦
      let short : length rest ≤ n = omega (arith, fits, ap length e, length-append line (10 ∷ rest)) in
      subst (AreLines (b ∷ bs)) (sym (ap cut_lines e ∙ cut-first line rest plain))
      (inl (line, rest, e, plain, text-of line, cut-within n rest short))
  | inr plain ↦ rw (cut-last (b ∷ bs) (omega arith) plain) (inr (λ h. nil-cons b bs (sym h), plain, refl, refl))
]

pub lines-cut : (bytes : List ℕ) → AreLines bytes (cut_lines bytes)
lines-cut bytes = cut-within (length bytes) bytes (omega arith)

-- bytes with no line feed are a line
pub last-line : (bytes : List ℕ) (lines : List (List ℕ)) → bytes ≢ [] → HasNoFeed bytes → AreLines [] lines
    → AreLines bytes (bytes ∷ lines)
last-line bytes lines some plain h = inr (some, plain, refl, lines-one [] lines [] h refl)
