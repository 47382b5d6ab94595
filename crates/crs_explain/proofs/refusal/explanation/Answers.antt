use Rattle.crs_explain.proofs.LineLemmas.{words_of}
use Rattle.crs_explain.proofs.refusal.explanation.Goals as goal

pub returns : goal.returns
returns c = record {
  is_position = rw c.place-place.ensures at c.position_of-position.ensures.position;
  is_excerpt = rw c.place-place.ensures at c.in_ok-excerpt.ensures;
  is_expected = c.in_ok-expected.ensures;
  are_sentences = (words_of _ _ c.in_ok-words_of.ensures, words_of _ _ c.in_ok-words_of-2.ensures, words_of _ _ c.in_ok-words_of-3.ensures);
  clue = _;
  tells_open = c.in_ok-clue.ensures;
  is_clue = rw c.deref.ensures.value at c.in_ok-words_of.ensures;
}
