use Rattle.std.proofs.Common.{sym, ◌∙◌, ap, Some, None}
use Rattle.crs_shape.proofs.faults.FitLemmas.{not_of}
use Rattle.crs_shape.proofs.faults.FaultLemmas.{exact}
use Rattle.crs_shape.proofs.fitting.fit.Goals as goal

pub returns-then-not-is_of : goal.returns-then-not-is_of
returns-then-not-is_of c =
    exact _ _ (Some _) (ap Some c.misplaced.ensures ∙ not_of _ _ (sym c.is_of.ensures ∙ c.if-not-is_of.true))

pub returns-in-None : goal.returns-in-None
returns-in-None c = exact _ _ None c.in-None.ensures.fault

pub returns-in-Some : goal.returns-in-Some
returns-in-Some c = exact _ _ (Some _) c.in-Some.ensures.fault
