use Rattle.crs_value.proofs.one.TextLemmas.{item-refused-one}
use Rattle.crs_value.proofs.laws.refused_once.Goals as goal

pub returns : goal.returns
returns c = item-refused-one c.fault_at_root_is_one.ensures.one
