use Rattle.std.proofs.Common.{Some, None, refl, sym}
use Rattle.crs_shape.specs.declared.class.Class.TheVariants as class
use Rattle.crs_value.specs.Checks.{BadOwnUnit, BadUnit, HasOwnUnit, SharedFits, at}
use Rattle.crs_value.specs.inner.Cursor.{args, item}
use Rattle.crs_value.specs.inner.Arguments.{item_at}
use Rattle.crs_value.proofs.found.ArgumentLemmas.{first-shaped, found-shaped}
use Rattle.crs_value.proofs.checked.CheckLemmas.{found-any, none-of, only-of}
use Rattle.crs_value.proofs.checked.LeastLemmas.{least-at, lesser-none}
use Rattle.crs_value.proofs.checked.UnitLemmas.{unit-none, unit-some}
use Rattle.crs_value.proofs.checks.axes.bad_unit.Goals as goal

pub type_of-system_type-requires-clause-shaped : goal.type_of-system_type-requires-clause-shaped
type_of-system_type-requires-clause-shaped c = first-shaped _ _ _ _ c.in-Some.cs c.requires.shaped (rw c.in-Some.is at c.requires.firsts.system)

pub any_from-requires-clause-shaped : goal.any_from-requires-clause-shaped
any_from-requires-clause-shaped c = found-shaped _ _ class.Axis _ _ c.requires.shaped c.requires.firsts.axis

pub any_from-beside-requires-clause-shaped : goal.any_from-beside-requires-clause-shaped
any_from-beside-requires-clause-shaped c = found-shaped _ _ class.Axis _ _ c.requires.shaped c.requires.firsts.axis

pub returns-in_default : goal.returns-in_default
returns-in_default c = none-of _ _ (rw c.in_default.is at c.requires.firsts.system)

pub returns-in_default-unit : goal.returns-in_default-unit
returns-in_default-unit c =
    let crs = c.args.crs.now in
    let cs = item_at crs.items.now c.in-Some.cs in
    only-of c.slots_count.ensures.most (BadUnit (args class.Axis crs) (args class.AxisUnit crs)) crs.items.now (item crs) crs.class class.CoordinateSystem c.in-Some.cs c.any_from.result c.requires.once c.requires.shaped
    (rw c.in-Some.is at c.requires.firsts.system)
    (unit-none _ _ cs c.any_from.result (rw c.in_default-unit.is at c.requires.firsts.unit)
    (found-any (BadOwnUnit cs) crs.items.now crs.class class.Axis _ c.args.firsts.now.axis c.any_from.result c.requires.firsts.axis c.any_from.ensures))

pub returns-then-fits : goal.returns-then-fits
returns-then-fits c =
    let crs = c.args.crs.now in
    let cs = item_at crs.items.now c.in-Some.cs in
    only-of c.slots_count.ensures.most (BadUnit (args class.Axis crs) (args class.AxisUnit crs)) crs.items.now (item crs) crs.class class.CoordinateSystem c.in-Some.cs c.any_from-beside.result c.requires.once c.requires.shaped
    (rw c.in-Some.is at c.requires.firsts.system)
    (unit-some _ _ _ cs (item_at crs.items.now c.in-Some-unit.unit) c.any_from-beside.result None c.any_from-beside.result (rw c.in-Some-unit.is at c.requires.firsts.unit).0
    (found-any HasOwnUnit crs.items.now crs.class class.Axis _ c.args.firsts.now.axis c.any_from-beside.result c.requires.firsts.axis c.any_from-beside.ensures)
    (λ f h. h.1 (c.if-fits.ensures.0 refl)) (sym (lesser-none _)))

pub returns-else-fits : goal.returns-else-fits
returns-else-fits c =
    let crs = c.args.crs.now in
    let cs = item_at crs.items.now c.in-Some.cs in
    let unit = item_at crs.items.now c.in-Some-unit.unit in
    only-of c.slots_count.ensures.most (BadUnit (args class.Axis crs) (args class.AxisUnit crs)) crs.items.now (item crs) crs.class class.CoordinateSystem c.in-Some.cs c.lesser.result c.requires.once c.requires.shaped
    (rw c.in-Some.is at c.requires.firsts.system)
    (unit-some _ _ _ cs unit c.any_from-beside.result (Some c.refusal_at.result) c.lesser.result (rw c.in-Some-unit.is at c.requires.firsts.unit).0
    (found-any HasOwnUnit crs.items.now crs.class class.Axis _ c.args.firsts.now.axis c.any_from-beside.result c.requires.firsts.axis c.any_from-beside.ensures)
    (least-at (at 27 unit) c.refusal_at.result (¬ (SharedFits cs (args class.Axis crs) unit)) c.refusal_at.ensures (λ h. let e = c.fits.ensures.1 h in let f = c.if-fits.false in cc)) c.lesser.ensures)
