use Rattle.crs_value.specs.inner.Arguments.{item_at}
use Rattle.crs_value.proofs.checked.UnitLemmas.{own-fits}
use Rattle.crs_value.proofs.judging.quick_checks.fits_own.Goals as goal

pub returns-in-Some : goal.returns-in-Some
returns-in-Some c = λ yes cs axis asks units.
    own-fits cs axis (item_at c.args.items.now c.in-Some.unit) c.args.kind asks (c.fits.ensures.0 yes) (rw c.in-Some.is at units)
