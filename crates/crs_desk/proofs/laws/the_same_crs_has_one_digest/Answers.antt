use Rattle.crs_desk.proofs.DigestLemmas.{one_digest}
use Rattle.crs_desk.proofs.laws.the_same_crs_has_one_digest.Goals as goal

pub returns : goal.returns
returns c = λ level. one_digest level (c.main_theorem.ensures level)
