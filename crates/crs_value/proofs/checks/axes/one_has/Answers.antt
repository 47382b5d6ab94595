use Rattle.std.proofs.Common.{refl}
use Rattle.crs_value.proofs.checked.CheckLemmas.{seek-first, seek-on, seek-here, seek-there}
use Rattle.crs_value.proofs.checks.axes.one_has.Goals as goal

pub loop-step-init : goal.loop-step-init
loop-step-init c = seek-first c.args.items.now c.args.class c.args.value.now c.args.axis c.requires.holds c.requires.shaped

pub unreachable-requires : goal.unreachable-requires
unreachable-requires c = seek-there _ _ _ _ c.loop-step._step c.args.k c.loop-step.at c.loop-step.invariant c.in_default.is c.loop-step-test.true c.requires.within

pub returns-then-has_this : goal.returns-then-has_this
returns-then-has_this c = (
  λ e. seek-here _ _ _ _ c.loop-step._step c.args.k c.in-Some.axis (rw c.in-Some.is at c.loop-step.invariant) c.loop-step-test.true (c.if-has_this.ensures.0 refl),
  λ h. refl,
)

pub loop-step-preserved : goal.loop-step-preserved
loop-step-preserved c =
    seek-on _ _ _ _ c.loop-step._step c.in-Some.axis c.later-at.result (rw c.in-Some.is at c.loop-step.invariant) (λ h. let e = c.has_this.ensures.1 h in let f = c.if-has_this.false in cc)
    c.later-at.ensures
