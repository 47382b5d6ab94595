use Rattle.crs_value.proofs.one.RootLemmas.{spelled-not-refused}
use Rattle.crs_value.proofs.laws.spelled_or_refused.Goals as goal

pub returns : goal.returns
returns c = spelled-not-refused
