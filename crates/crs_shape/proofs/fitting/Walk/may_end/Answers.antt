use Rattle.std.proofs.Common.{◌∙◌}
use Rattle.crs_shape.proofs.walks.WalkLemmas.{ends_by, ends_here}
use Rattle.crs_shape.proofs.fitting.Walk.may_end.Goals as goal

pub returns-then-waits : goal.returns-then-waits
returns-then-waits c = (rw c.if-waits.true at (ends_by _ _ _ c.loop-at.filled _ c.loop-at-test.true c.waits.ensures)) ∙ c.loop-at.invariant

pub loop-at-preserved : goal.loop-at-preserved
loop-at-preserved c = (rw c.if-waits.false at (ends_by _ _ _ c.loop-at.filled _ c.loop-at-test.true c.waits.ensures)) ∙ c.loop-at.invariant

pub returns : goal.returns
returns c = ends_here _ _ _ c.loop-at-test.false ∙ c.loop-at.invariant
