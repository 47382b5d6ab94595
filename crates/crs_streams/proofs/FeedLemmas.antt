-- Line feeds among bytes, and lines that aren't too long.
use Rattle.std.proofs.Common.{◌≡◌, ◌⊎◌, ◌+◌, ◌≤◌, ◌++◌, ◌∷◌, [], ℕ, List, length, inl, inr, ap, sym, refl, ◌∙◌, arith, append_assoc, length-append, ◌==◌, cond}
use Rattle.std.proofs.lemmas.Bool.{false≢true}
use Rattle.std.proofs.lemmas.List.Sums.{sum_by-append}
use Rattle.crs_streams.specs.Lines.{HasNoFeed, EndsInFeed, HasShortLines, feeds}
use Rattle.crs_streams.proofs.LineLemmas.{feed-rest, feed-test, head-tail, head-is, tail-is}

-- how many feeds there are
pub feeds-append : (a b : List ℕ) → feeds (a ++ b) ≡ feeds a + feeds b
feeds-append a b = sum_by-append (λ x. cond (x == 10) 1 0) a b

pub feeds-none : (bytes : List ℕ) → HasNoFeed bytes → feeds bytes ≡ 0
feeds-none [] plain = refl
feeds-none (b ∷ bs) plain = rw (feed-test b bs plain) (omega (arith, feeds-none bs (feed-rest b bs plain)))

-- a stretch at the start of the bytes that ends before their first feed
stretch-before : (line rest a b : List ℕ) → line ++ rest ≡ a ++ 10 ∷ b → HasNoFeed line
    → (m : List ℕ) × (a ≡ line ++ m)
stretch-before [] rest a b e plain = (a, refl)
stretch-before (x ∷ xs) rest [] b e plain =
    absurd (false≢true (sym (feed-test x xs plain) ∙ ap (λ y. y == 10) (head-is e)))
stretch-before (x ∷ xs) rest (y ∷ ys) b e plain =
    let further = stretch-before xs rest ys b (tail-is e) (feed-rest x xs plain) in (further.0, head-tail (sym (head-is e)) further.1)

-- what begins after some bytes begins before a feed, or after it
begins-either : (front rest a b : List ℕ) → a ++ 10 ∷ b ≡ front ++ rest
    → ((m : List ℕ) × (a ≡ front ++ m) × (m ++ 10 ∷ b ≡ rest)) ⊎ ((m : List ℕ) × (b ≡ m ++ rest))
begins-either [] rest a b e = inl (a, refl, e)
begins-either (x ∷ xs) rest [] b e = inr (xs, tail-is e)
begins-either (x ∷ xs) rest (y ∷ ys) b e =
    elim (begins-either xs rest ys b (tail-is e)) [
      | inl (m, is, more) ↦ inl (m, head-tail (head-is e) is, more)
      | inr found ↦ inr found
    ]

pub short-front : (a b : List ℕ) → HasShortLines (a ++ b) → HasShortLines a
unfolding HasShortLines
short-front a b short front line rest e plain =
    short front line (rest ++ b) (rw e (simp append_assoc refl)) plain

pub short-line : (line : List ℕ) → length line ≤ 1048576 → HasShortLines line
unfolding HasShortLines
short-line line fits front stretch rest e plain =
    omega (arith, ap length e, length-append front (stretch ++ rest), length-append stretch rest)

pub short-feed : (a b : List ℕ) → HasShortLines a → HasShortLines b → HasShortLines (a ++ 10 ∷ b)
unfolding HasShortLines
short-feed a b first second front line rest e plain = elim (begins-either front (line ++ rest) a b e) [
  | inl (m, is, more) ↦
      let found = stretch-before line rest m b (sym more) plain in
      first front line found.0 (is ∙ ap (λ l. front ++ l) found.1) plain
  | inr (m, is) ↦ second m line rest is plain
]

pub short-more : (ended more : List ℕ) → (ended ≡ []) ⊎ EndsInFeed ended → HasShortLines ended → HasShortLines more
    → HasShortLines (ended ++ more)
short-more ended more (inl none) before behind = rw none behind
short-more ended more (inr (front, is)) before behind =
    rw (is, append_assoc front (10 ∷ []) more)
    (short-feed front more (short-front front (10 ∷ []) (rw is at before)) behind)

-- after lines that have ended, one more line of this length
pub short-ended : (ended line : List ℕ) → (ended ≡ []) ⊎ EndsInFeed ended → HasShortLines ended → length line ≤ 1048576
    → HasShortLines (ended ++ (line ++ 10 ∷ []))
short-ended ended line begins before fits =
    short-more ended (line ++ 10 ∷ []) begins before
    (short-feed line [] (short-line line fits) (short-line [] (omega arith)))
