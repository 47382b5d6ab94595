use Rattle.crs_shape.specs.declared.class.Class.TheVariants as class
use Rattle.crs_value.specs.inner.Prelude.{ReadsAxis, IsAxis}
use Rattle.crs_normal.specs.AxisAlone.{IsNormalAxis}
use Rattle.crs_normal.specs.inner.PartTexts.{norm_axis_alone}
use Rattle.crs_normal.specs.inner.SpelledCrs.{item_axis}
use Rattle.crs_normal.proofs.made.AloneLemmas.{axis-stands}
use Rattle.crs_normal.proofs.parts.AxisAloneLemmas.{axis-alone-form}
use Rattle.crs_normal.proofs.parts.PartLemmas.{canonical-by, told-by}
use Rattle.crs_normal.proofs.read.FrameLemmas.{axis-alone-read}
use Rattle.crs_normal.proofs.same.AxisLemmas.{axis-alone-agrees}
use Rattle.crs_normal.proofs.laws.parts.axes_are_canonical.Goals as goal

pub returns : goal.returns
returns c level =
    let laws = c.lower_laws.ensures in
    canonical-by laws item_axis (record {
      decides = axis-alone-agrees laws c.sets_decide.ensures level;
      made = axis-stands laws level;
      reads = λ x s. axis-alone-read laws level x s 0;
      told = told-by laws (λ x. class.Axis) (λ x. IsNormalAxis level) class.Axis ReadsAxis IsAxis
          (norm_axis_alone level) item_axis c.parts_read_once.ensures.axis
          (axis-stands laws level) (λ x s. axis-alone-read laws level x s 0);
      sound = λ x s. c.parts_are_sound.ensures.axis class.Axis;
      own = λ x s i v sound normal. axis-alone-form laws.plain_one level i v sound.shaped normal;
    })
