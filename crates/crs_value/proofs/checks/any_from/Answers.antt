use Rattle.crs_value.proofs.checked.CheckLemmas.{checked-on}
use Rattle.crs_value.proofs.checks.any_from.Goals as goal

pub loop-at-preserved : goal.loop-at-preserved
loop-at-preserved g c =
    checked-on (g.C.Check.Broken c.args.check.now c.args.items.now) _ _ _ _ c.loop-at.least c.lesser-least.result c.check.result c.in-Some.found c.later-at.result
    (rw c.in-Some.is at c.loop-at.invariant) c.check.ensures c.lesser-least.ensures c.later-at.ensures
