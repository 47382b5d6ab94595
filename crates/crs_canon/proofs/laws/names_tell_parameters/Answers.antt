use Rattle.crs_canon.proofs.NamedLemmas.{names-tell}
use Rattle.crs_canon.proofs.laws.names_tell_parameters.Goals as goal

pub returns : goal.returns
returns c = names-tell
