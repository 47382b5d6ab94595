use Rattle.std.proofs.Common.{arith, refl, ap, reverse}
use Rattle.crs_text.proofs.rows.NestingLemmas.{popped, nested_start, nested_next, answered_end, answered_halt}
use Rattle.crs_text.proofs.nesting.innermost.Goals as goal

pub loop-at-init : goal.loop-at-init
loop-at-init c =
    rw (ap reverse c.new-nest.ensures) (nested_start c.args.text.now c.args.place c.after_white-at.result (omega (arith, c.after_white-at.ensures)))

pub loop-at-preserved : goal.loop-at-preserved
loop-at-preserved c =
    rw c.after_white-at-in-Some.ensures
    (nested_next c.args.text.now c.args.place c.loop-at.at (reverse c.loop-at.nest.items) c.loop-at.invariant (omega (arith, c.loop-at-test.true, c.min-end.ensures)) (reverse c.pass.new.nest.items) c.in-Some.size _ c.in-Some.ensures refl)

pub returns-in-None : goal.returns-in-None
returns-in-None c =
    rw (popped _ _ _ c.pop.ensures.items c.pop.ensures.variant).1 at (answered_halt c.args.text.now c.args.place c.loop-at.at (reverse c.loop-at.nest.items) c.loop-at.invariant (reverse c.pass.new.nest.items) c.in-None.ensures)

pub returns : goal.returns
returns c =
    rw (popped _ _ _ c.pop-2.ensures.items c.pop-2.ensures.variant).1 at (answered_end c.args.text.now c.args.place c.loop-at.at (reverse c.loop-at.nest.items) c.loop-at.invariant (omega (arith, c.loop-at-test.false, c.min-end.ensures)))
