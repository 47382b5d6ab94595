use Rattle.std.proofs.Common.{◌∙◌, refl}
use Rattle.crs_shape.proofs.walks.WalkLemmas.{stands_here, passes_by, goes_nowhere}
use Rattle.crs_shape.proofs.fitting.Walk.after.Goals as goal
use Rattle.crs_shape.proofs.fitting.Walk.after.Goals.{then-slot, else-slot}

pub returns-then-takes : goal.returns-then-takes
returns-then-takes c =
    elim c.if-slot.branch [
      | then-slot w ↦ stands_here _ _ _ c.loop-at.filled _ _ _ c.loop-at-test.true c.takes.ensures c.if-takes.true (λ m. rw (w.next-is, m) refl) (λ m. absurd cc) ∙ c.loop-at.invariant
      | else-slot w ↦ stands_here _ _ _ c.loop-at.filled _ _ _ c.loop-at-test.true c.takes.ensures c.if-takes.true (λ m. absurd cc) (λ m. rw (w.next-is, m) refl) ∙ c.loop-at.invariant
    ]

pub returns-then-waits : goal.returns-then-waits
returns-then-waits c =
    (rw c.if-waits.true at (passes_by _ _ _ c.loop-at.filled _ _ _ c.loop-at-test.true c.takes.ensures c.if-takes.false c.waits.ensures)) ∙ c.loop-at.invariant

pub loop-at-preserved : goal.loop-at-preserved
loop-at-preserved c =
    (rw c.if-waits.false at (passes_by _ _ _ c.loop-at.filled _ _ _ c.loop-at-test.true c.takes.ensures c.if-takes.false c.waits.ensures)) ∙ c.loop-at.invariant

pub returns : goal.returns
returns c = goes_nowhere _ _ _ _ c.loop-at-test.false ∙ c.loop-at.invariant
