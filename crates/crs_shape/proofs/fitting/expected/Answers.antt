use Rattle.std.proofs.Common.{sym}
use Rattle.crs_shape.proofs.faults.FitLemmas.{root-is_of}
use Rattle.crs_shape.proofs.fitting.expected.Goals as goal

pub fault_within-requires-clause-class : goal.fault_within-requires-clause-class
fault_within-requires-clause-class c = root-is_of _ _ (sym c.in-Some.ensures)
