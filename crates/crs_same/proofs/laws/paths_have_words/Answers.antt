use Rattle.crs_same.proofs.WordLemmas.{path-has-words}
use Rattle.crs_same.proofs.laws.paths_have_words.Goals as goal

pub returns : goal.returns
returns c = path-has-words
