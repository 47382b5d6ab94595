use Rattle.std.proofs.Common.{Some, None, refl}
use Rattle.crs_shape.specs.declared.unit_kind.UnitKind.{UnitKind}
use Rattle.crs_value.specs.Checks.{Asks, Fits, at}
use Rattle.crs_value.specs.inner.Arguments.{item_at}
use Rattle.crs_value.proofs.checked.LeastLemmas.{least-at}
use Rattle.crs_value.proofs.checked.UnitLemmas.{misfit-none, misfit-unknown, own-some}
use Rattle.crs_value.proofs.checks.axes.AskingCheck.check.Goals as goal

pub asked-requires-clause-shaped : goal.asked-requires-clause-shaped
asked-requires-clause-shaped c = rw (← c.requires.fits.1) c.requires.shaped

pub returns-in_err-kind : goal.returns-in_err-kind
returns-in_err-kind c =
    let tree = c.args.items.now in
    let cs = item_at tree c.args.self.now.cs in
    let axis = item_at tree c.args.id in
    own-some c.slots_count.ensures.most tree cs axis c.in-Some.unit c.from_residual.result (rw (← c.requires.fits.1) c.requires.shaped) c.in-Some.ensures
    (misfit-unknown cs axis (item_at tree c.in-Some.unit) c.from_residual.result c.in_err-kind.ensures c.from_residual.ensures)

pub returns-then-fits : goal.returns-then-fits
returns-then-fits c =
    let tree = c.args.items.now in
    let cs = item_at tree c.args.self.now.cs in
    let axis = item_at tree c.args.id in
    own-some c.slots_count.ensures.most tree cs axis c.in-Some.unit None (rw (← c.requires.fits.1) c.requires.shaped) c.in-Some.ensures
    (misfit-none cs axis (item_at tree c.in-Some.unit) c.in_ok-kind.kind c.in_ok-kind.ensures (c.if-fits.ensures.0 refl))

pub returns-else-fits : goal.returns-else-fits
returns-else-fits c =
    let tree = c.args.items.now in
    let cs = item_at tree c.args.self.now.cs in
    let axis = item_at tree c.args.id in
    let unit = item_at tree c.in-Some.unit in
    let Wrong : Type 0 = (kind : UnitKind) × (Asks cs axis kind × ¬ (Fits unit kind)) in
    own-some c.slots_count.ensures.most tree cs axis c.in-Some.unit (Some c.refusal_at-else-fits.result) (rw (← c.requires.fits.1) c.requires.shaped) c.in-Some.ensures
    (least-at (at 27 unit) c.refusal_at-else-fits.result Wrong c.refusal_at-else-fits.ensures
    (c.in_ok-kind.kind, (c.in_ok-kind.ensures, λ h. let e = c.fits.ensures.1 h in let f = c.if-fits.false in cc)))
