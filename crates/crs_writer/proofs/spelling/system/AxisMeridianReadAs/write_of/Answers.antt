use Rattle.std.proofs.Common.{Some}
use Rattle.crs_shape.specs.declared.class.Class.TheVariants as class
use Rattle.crs_value.specs.inner.Prelude.{ReadsUnit}
use Rattle.crs_writer.proofs.FoundLemmas.{first-said, needed}
use Rattle.crs_writer.proofs.FlatLemmas.{written}
use Rattle.crs_writer.proofs.spelling.system.AxisMeridianReadAs.write_of.Goals as goal

pub returns : goal.returns
returns c = written c.write_axis_meridian.result _ _ _ c.write_axis_meridian.ensures (λ w m r.
    w m.longitude (Some m.unit) (c.number.ensures m.longitude r.longitude)
    (first-said ReadsUnit c.args.node.now class.AngleUnit _ _ _ c.first-unit.ensures c.as_ref.ensures.value
    (needed (ReadsUnit class.AngleUnit) _ m.unit r.unit)))
