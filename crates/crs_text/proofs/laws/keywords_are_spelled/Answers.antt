use Rattle.crs_text.proofs.words.KeywordLemmas.{keyword-spelled}
use Rattle.crs_text.proofs.laws.keywords_are_spelled.Goals as goal

pub returns : goal.returns
returns c = keyword-spelled
