use Rattle.std.proofs.Common.{take, inl, Some, None, refl, arith}
use Rattle.crs_shape.specs.declared.class.Class.TheVariants as class
use Rattle.crs_value.specs.Checks.{IsBadOrder, IsWrongOrder, at}
use Rattle.crs_value.specs.inner.Cursor.{args}
use Rattle.crs_value.specs.inner.Arguments.{item_at}
use Rattle.crs_value.proofs.found.ArgumentLemmas.{first-shaped, found-holds, found-is, found-shaped}
use Rattle.crs_value.proofs.checked.CheckLemmas.{none-of, only-of, wrong-again, wrong-none}
use Rattle.crs_value.proofs.checked.LeastLemmas.{least-at}
use Rattle.crs_value.proofs.checks.axes.wrong_order.Goals as goal

pub returns-in_err-order : goal.returns-in_err-order
returns-in_err-order c = rw c.from_residual.ensures (none-of _ _ c.in_err-order.ensures)

pub number-value-requires-clause-shaped : goal.number-value-requires-clause-shaped
number-value-requires-clause-shaped c = first-shaped _ class.Axis class.Order _ c.in_ok-order.order c.requires.axis.1 c.in_ok-order.ensures

pub one_has-requires-clause-holds : goal.one_has-requires-clause-holds
one_has-requires-clause-holds c = found-holds c.args.crs.now.items.now c.args.crs.now.class class.Axis _ c.args.firsts.now.axis c.requires.firsts.axis

pub one_has-requires-clause-shaped : goal.one_has-requires-clause-shaped
one_has-requires-clause-shaped c = found-shaped _ _ class.Axis _ _ c.requires.shaped c.requires.firsts.axis

pub one_has-requires-clause-within : goal.one_has-requires-clause-within
one_has-requires-clause-within c = rw (found-is c.args.crs.now.items.now c.args.crs.now.class class.Axis _ c.args.firsts.now.axis c.requires.firsts.axis) at c.requires.within

pub returns-then-not-is_position : goal.returns-then-not-is_position
returns-then-not-is_position c =
    let tree = c.args.crs.now.items.now in
    let order = item_at tree c.in_ok-order.order in
    let n = c.args.firsts.now.axes in
    let before = take c.args.before (args class.Axis c.args.crs.now) in
    only-of c.slots_count.ensures.most (IsBadOrder n before) tree (item_at tree c.args.axis) class.Axis class.Order c.in_ok-order.order (Some c.refusal_at.result) (refl, omega arith) c.requires.axis.1 c.in_ok-order.ensures
    (least-at (at 26 order) _ (IsWrongOrder n before order) c.refusal_at.ensures
    (c.number-value.result, (c.number-value.ensures, inl (λ h. let e = c.is_position.ensures.1 h in let f = c.if-not-is_position.true in cc))))

pub returns-then-one_has : goal.returns-then-one_has
returns-then-one_has c =
    let tree = c.args.crs.now.items.now in
    let n = c.args.firsts.now.axes in
    let axes = args class.Axis c.args.crs.now in
    let before = take c.args.before axes in
    only-of c.slots_count.ensures.most (IsBadOrder n before) tree (item_at tree c.args.axis) class.Axis class.Order c.in_ok-order.order (Some c.refusal_at-then-one_has.result) (refl, omega arith) c.requires.axis.1 c.in_ok-order.ensures
    (wrong-again n before (item_at tree c.in_ok-order.order) c.number-value.result _ c.refusal_at-then-one_has.ensures c.number-value.ensures
    (rw (found-is tree c.args.crs.now.class class.Axis axes c.args.firsts.now.axis c.requires.firsts.axis) (c.if-one_has.ensures.0 refl)))

pub returns : goal.returns
returns c =
    let tree = c.args.crs.now.items.now in
    let n = c.args.firsts.now.axes in
    let axes = args class.Axis c.args.crs.now in
    let before = take c.args.before axes in
    only-of c.slots_count.ensures.most (IsBadOrder n before) tree (item_at tree c.args.axis) class.Axis class.Order c.in_ok-order.order None (refl, omega arith) c.requires.axis.1 c.in_ok-order.ensures
    (wrong-none c.denotes_one.ensures n before (item_at tree c.in_ok-order.order) c.number-value.result c.number-value.ensures (c.is_position.ensures.0 c.if-not-is_position.false)
    (λ h. let e = c.one_has.ensures.1 (rw (found-is tree c.args.crs.now.class class.Axis axes c.args.firsts.now.axis c.requires.firsts.axis) at h) in let f = c.if-one_has.false in cc))
