use Rattle.crs_explain.proofs.OrderLemmas.{kept}
use Rattle.crs_explain.proofs.laws.no_words_keep_the_order.Goals as goal

pub returns : goal.returns
returns c = kept
