use Rattle.std.proofs.Common.{None, refl}
use Rattle.crs_shape.specs.declared.class.Class.TheVariants as class
use Rattle.crs_value.specs.Checks.{LacksOrder}
use Rattle.crs_value.proofs.found.ArgumentLemmas.{found-is, found-holds, found-shaped}
use Rattle.crs_value.proofs.checked.CheckLemmas.{found-any, order-all, order-none, order-some}
use Rattle.crs_value.proofs.checks.axes.bad_order.Goals as goal

pub any_from-requires-clause-shaped : goal.any_from-requires-clause-shaped
any_from-requires-clause-shaped c = found-shaped _ _ class.Axis _ _ c.requires.shaped c.requires.firsts.axis

pub some_has_order-requires : goal.some_has_order-requires
some_has_order-requires c = found-holds c.args.crs.now.items.now c.args.crs.now.class class.Axis _ c.args.firsts.now.axis c.requires.firsts.axis

pub returns-in-Some : goal.returns-in-Some
returns-in-Some c =
    rw (found-is c.args.crs.now.items.now c.args.crs.now.class class.Axis _ c.args.firsts.now.axis c.requires.firsts.axis)
    (order-some _ c.in-Some.lacks c.in-Some.ensures (c.if-some_has_order.ensures.0 refl))

pub returns-in-Some-2 : goal.returns-in-Some-2
returns-in-Some-2 c =
    rw (found-is c.args.crs.now.items.now c.args.crs.now.class class.Axis _ c.args.firsts.now.axis c.requires.firsts.axis)
    (order-none _ c.in-Some-2.field-0 c.in-Some-2.ensures (λ h. let e = c.some_has_order.ensures.1 h in let f = c.if-some_has_order.false in cc))

pub returns-in-None : goal.returns-in-None
returns-in-None c =
    order-all _ c.bad_orders.result (found-any LacksOrder c.args.crs.now.items.now c.args.crs.now.class class.Axis _ c.args.firsts.now.axis None c.requires.firsts.axis c.in-None.ensures)
    c.bad_orders.ensures
