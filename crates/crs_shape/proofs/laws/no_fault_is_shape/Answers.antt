use Rattle.crs_shape.proofs.faults.ShapedLemmas.{free-shaped, shaped-free}
use Rattle.crs_shape.proofs.laws.no_fault_is_shape.Goals as goal

pub returns : goal.returns
returns c = λ class item. (free-shaped class item, shaped-free class item)
