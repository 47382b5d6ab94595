use Rattle.std.proofs.Common.{refl}
use Rattle.crs_normal.specs.inner.PartTexts.{axis_text}
use Rattle.crs_normal.proofs.same.AxisLemmas.{axis-alone-agrees}
use Rattle.crs_normal.proofs.laws.parts.axis_texts_tell_axes.Goals as goal

pub returns : goal.returns
returns c level a b p q e =
    let w = c.axes_are_canonical.ensures level in
    (axis-alone-agrees c.lower_laws.ensures c.sets_decide.ensures level a b p q).1
    ((w.form.equal a b (axis_text level a) (axis_text level b) p q (w.written a _ p refl) (w.written b _ q refl)).0 e)
