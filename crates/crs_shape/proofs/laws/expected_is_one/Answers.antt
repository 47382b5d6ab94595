use Rattle.crs_shape.proofs.faults.RefusedLemmas.{alike_at_root, refused_at_root}
use Rattle.crs_shape.proofs.laws.expected_is_one.Goals as goal

pub returns-clause-one : goal.returns-clause-one
returns-clause-one c = alike_at_root

pub returns-clause-refused : goal.returns-clause-refused
returns-clause-refused c = refused_at_root
