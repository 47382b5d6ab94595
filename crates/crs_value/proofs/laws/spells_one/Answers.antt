use Rattle.crs_value.proofs.one.RootLemmas.{spelled-one}
use Rattle.crs_value.proofs.laws.spells_one.Goals as goal

pub returns : goal.returns
returns c = spelled-one c.denotes_one.ensures
