use Rattle.std.proofs.Common.{refl}
use Rattle.crs_text.specs.inner.Prelude.{raw_of}
use Rattle.crs_value.specs.inner.Arguments.{item_at}
use Rattle.crs_value.proofs.checked.UnitLemmas.{fits-none}
use Rattle.crs_value.proofs.checks.axes.fits.Goals as goal

pub returns-in-None : goal.returns-in-None
returns-in-None c =
    let item = item_at c.args.items.now c.args.unit in
    (λ e. absurd cc, λ h. absurd (fits-none item (raw_of item) c.args.kind refl c.in-None.ensures h))
