use Rattle.std.proofs.Common.{sym, ◌∙◌}
use Rattle.crs_shape.specs.declared.class.Class.TheVariants as class
use Rattle.crs_value.specs.inner.Prelude.{ReadsAxis}
use Rattle.crs_writer.proofs.AxisLemmas.{axes-counted}
use Rattle.crs_writer.proofs.spelling.system.RefNodeSystemPart.axis_count.Goals as goal

pub returns : goal.returns
returns c = λ s r. axes-counted (ReadsAxis class.Axis) _ s.axes r.axes ∙ sym c.axis_count.ensures
