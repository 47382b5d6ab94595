use Rattle.crs_shape.specs.ShapeFault.{AtRoot}
use Rattle.crs_shape.proofs.faults.FaultLemmas.{exact_at_root, one-of, none-or-one}
use Rattle.crs_shape.proofs.laws.fault_at_root_is_one.Goals as goal

pub returns-clause-one : goal.returns-clause-one
returns-clause-one c = λ item. one-of (AtRoot item) _ (exact_at_root item).1

pub returns-clause-either : goal.returns-clause-either
returns-clause-either c = λ item. none-or-one (AtRoot item) _ (exact_at_root item).1
