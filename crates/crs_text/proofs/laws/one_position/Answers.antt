use Rattle.crs_text.proofs.texts.OnePositionLemmas.{one_position}
use Rattle.crs_text.proofs.laws.one_position.Goals as goal

pub returns : goal.returns
returns c = one_position
