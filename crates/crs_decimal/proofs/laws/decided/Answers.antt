use Rattle.crs_decimal.proofs.DecidedLemmas as lemmas
use Rattle.crs_decimal.proofs.laws.decided.Goals as goal

pub returns : goal.returns
returns c = lemmas.decided
