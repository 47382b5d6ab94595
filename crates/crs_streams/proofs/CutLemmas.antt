-- Bytes are cut into lines, one line or some bytes further.
use Rattle.std.proofs.Common.{◌≡◌, ◌⊎◌, ◌+◌, ◌<◌, ◌≤◌, ◌++◌, ◌∷◌, [], ℕ, List, length, inl, inr, ap, subst, sym, refl, ◌∙◌, arith, append_assoc, append-nil, length-append, ◌==◌}
use Rattle.std.proofs.lemmas.List.Sums.{count_by-le-length}
use Rattle.crs_streams.specs.inner.Cutting.{AreCut, CutsLines}
use Rattle.crs_streams.specs.Lines.{AreLines, HasNoFeed, EndsInFeed, HasShortLines, IsTooLong, feeds}
use Rattle.crs_streams.proofs.FeedLemmas.{feeds-append, feeds-none, short-ended, short-line, short-more}
use Rattle.crs_streams.proofs.SplitLemmas.{plain-append}

-- after a feed, bytes that end in one end in one
ends-behind : (line rest front : List ℕ) → line ++ 10 ∷ rest ≡ front ++ 10 ∷ [] → (rest ≡ []) ⊎ EndsInFeed rest
ends-behind [] rest [] e = inl (cc)
ends-behind [] rest (y ∷ ys) e = inr (ys, cc)
ends-behind (x ∷ xs) rest [] e = grind (arith, ap length e, length-append xs (10 ∷ rest))
ends-behind (x ∷ xs) rest (y ∷ ys) e = ends-behind xs rest ys (cc)

begins-behind : (bytes line rest : List ℕ) → bytes ≡ line ++ 10 ∷ rest → (bytes ≡ []) ⊎ EndsInFeed bytes
    → (rest ≡ []) ⊎ EndsInFeed rest
begins-behind bytes line rest e (inl none) = grind (arith, ap length (sym e ∙ none), length-append line (10 ∷ rest))
begins-behind bytes line rest e (inr (front, ends)) = ends-behind line rest front (sym e ∙ ends)

no-feed-ends : (bytes : List ℕ) → HasNoFeed bytes → EndsInFeed bytes → ⊥
no-feed-ends bytes plain (front, ends) =
    let none : feeds bytes ≡ 0 = feeds-none bytes plain in
    let one : feeds (front ++ 10 ∷ []) ≡ feeds front + 1 = feeds-append front (10 ∷ []) in
    absurd (omega (arith, none, one, ap feeds ends))

-- lines after lines that have ended
lines-append : (a b : List ℕ) (xs ys : List (List ℕ)) → (a ≡ []) ⊎ EndsInFeed a → AreLines a xs → AreLines b ys
    → AreLines (a ++ b) (xs ++ ys)
lines-append a b [] ys begins none more = subst (λ l. AreLines (l ++ b) ys) (sym none) more
lines-append a b (x ∷ xs) ys begins (inl (line, rest, e, plain, is, further)) more = inl (
  line,
  rest ++ b,
  ap (λ l. l ++ b) e ∙ append_assoc line (10 ∷ rest) b,
  plain,
  is,
  lines-append rest b xs ys (begins-behind a line rest e begins) further more,
)
lines-append a b (x ∷ xs) ys (inl none) (inr (some, plain, is, end)) more = absurd (some none)
lines-append a b (x ∷ xs) ys (inr ends) (inr (some, plain, is, end)) more = absurd (no-feed-ends a plain ends)

module _ {bytes ended partial : List ℕ} {lines : ℕ} (cut : AreCut bytes ended partial lines) where
  cut-line : (line : List ℕ) → HasNoFeed line → length partial + length line ≤ 1048576
      → AreCut (bytes ++ (line ++ 10 ∷ [])) (ended ++ ((partial ++ line) ++ 10 ∷ [])) [] (lines + 1)
  cut-line line plain fits =
      let whole = partial ++ line in record {
        are_bytes = simp (cut.are_bytes, append_assoc, append-nil);
        begins = inr (ended ++ whole, sym (append_assoc ended whole (10 ∷ [])));
        are_short = short-ended ended whole cut.begins cut.are_short (omega (arith, length-append partial line));
        is_one = refl;
        is_short = omega arith;
        is_counted = omega (
          arith,
          cut.is_counted,
          feeds-append ended (whole ++ 10 ∷ []),
          feeds-append whole (10 ∷ []),
          feeds-none whole (plain-append partial line cut.is_one plain),
          one-feed,
        );
      }
    where
      one-feed : feeds (10 ∷ []) ≡ 1
      one-feed = refl

  cut-more : (more : List ℕ) → HasNoFeed more → length partial + length more ≤ 1048576
      → AreCut (bytes ++ more) ended (partial ++ more) lines
  cut-more more plain few = record {
    are_bytes = simp (cut.are_bytes, append_assoc);
    begins = cut.begins;
    are_short = cut.are_short;
    is_one = plain-append partial more cut.is_one plain;
    is_short = omega (arith, length-append partial more, few);
    is_counted = cut.is_counted;
  }

  cut-long : (line rest : List ℕ) → HasNoFeed line → 1048576 < length partial + length line → length line + length rest ≤ 65536
      → (long : IsTooLong (bytes ++ (line ++ rest)) (lines + 1)) × (long.front ≡ ended)
  cut-long line rest plain long small = (
    record {
      front = ended;
      long = partial ++ line;
      rest = rest;
      are_bytes = simp (cut.are_bytes, append_assoc);
      begins = cut.begins;
      is_one = plain-append partial line cut.is_one plain;
      is_long = omega (arith, length-append partial line);
      is_soon = omega (arith, length-append partial line, cut.is_short);
      before = cut.are_short;
      is_number = ap (λ n. n + 1) cut.is_counted;
    },
    refl,
  )

  cut-short : HasShortLines bytes
  cut-short =
      subst HasShortLines (sym cut.are_bytes)
      (short-more ended partial cut.begins cut.are_short (short-line partial cut.is_short))

  cut-fits : lines ≤ length bytes
  cut-fits =
      omega (arith, cut.is_counted, count_by-le-length (λ b. b == 10) ended, ap length cut.are_bytes, length-append ended partial)

pub cuts-lines : CutsLines
cuts-lines = record {
  none = record {
    are_bytes = refl;
    begins = inl refl;
    are_short = short-line [] (omega arith);
    is_one = refl;
    is_short = omega arith;
    is_counted = refl;
  };
  line = λ line cut. cut-line cut line;
  more = λ more cut. cut-more cut more;
  long = λ line rest cut. cut-long cut line rest;
  short = cut-short;
  fits = cut-fits;
  joined = lines-append;
}
