use Rattle.crs_shape.proofs.walks.SlotLemmas.{one_way}
use Rattle.crs_shape.proofs.laws.fits_one_way.Goals as goal

pub returns : goal.returns
returns c = one_way
