use Rattle.crs_value.proofs.checked.CheckLemmas.{some-on}
use Rattle.crs_value.proofs.checks.axes.some_has_order.Goals as goal

pub loop-at-preserved : goal.loop-at-preserved
loop-at-preserved c =
    some-on _ _ _ c.in-Some.axis c.later-at.result (rw c.in-Some.is at c.loop-at.invariant) (λ h. let e = c.has_some.ensures.1 h in let f = c.if-has_some.false in cc) c.later-at.ensures
