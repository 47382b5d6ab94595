use Rattle.crs_value.specs.inner.Cursor.{item}
use Rattle.crs_value.specs.inner.Arguments.{item_at}
use Rattle.crs_value.proofs.checked.UnitLemmas.{asking-first}
use Rattle.crs_value.proofs.checks.axes.Asking.fits_as.Goals as goal

pub loop-at-init : goal.loop-at-init
loop-at-init c =
    let crs = c.args.crs.now in
    asking-first crs.items.now crs.class (item_at crs.items.now c.args.self.now.cs) (item crs) c.args.kind c.first-at.result c.requires.shaped c.first-at.ensures
