use Rattle.crs_value.specs.inner.Arguments.{item_at}
use Rattle.crs_value.proofs.checked.UnitLemmas.{asks-one}
use Rattle.crs_value.proofs.checks.axes.Asking.asks.Goals as goal

pub returns-in-None : goal.returns-in-None
returns-in-None c = (λ e. absurd cc, λ h. absurd (c.in-None.ensures c.args.kind h))

pub returns-in-Some : goal.returns-in-Some
returns-in-Some c = (
  λ e. rw (← c.same_kind.ensures.0 e) c.in-Some.ensures,
  λ h. c.same_kind.ensures.1 (asks-one (item_at c.args.items.now c.args.self.now.cs) (item_at c.args.items.now c.args.axis) c.in-Some.asked c.args.kind c.in-Some.ensures h),
)
