use Rattle.crs_same.proofs.DifferenceLemmas.{asked-alike}
use Rattle.crs_same.proofs.laws.one_kind_is_asked.Goals as goal

pub returns : goal.returns
returns c = asked-alike
