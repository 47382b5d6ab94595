-- Bytes of a line.
use Rattle.std.proofs.Common.{◌≡◌, ℕ, ◌==◌, inl, inr, List, [], ◌∷◌, map, refl, sym, subst, take, arith}
use Rattle.std.proofs.lemmas.Bool.{cases_Bool}
use Rattle.std.proofs.lemmas.List.{length-map, length-take}
use Rattle.crs_text.specs.inner.Prelude.{feeds}
use Rattle.crs_explain.specs.Explained.{AreWords, in_line, line_words}

no_feeds : (words : List ℕ) → feeds (map in_line words) ≡ 0
no_feeds [] = refl
no_feeds (b ∷ words) = elim (cases_Bool (b == 10)) [
  | inl is ↦ rw (is, no_feeds words) refl
  | inr other ↦ rw (other, other, no_feeds words) refl
]

pub words_of : (words line : List ℕ) → line ≡ line_words words → AreWords line
words_of words line is =
    subst AreWords (sym is) (no_feeds (take 1000 words), omega (arith, length-map (take 1000 words) in_line, length-take 1000 words))
