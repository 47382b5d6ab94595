use Rattle.crs_shape.specs.declared.class.Class.TheVariants as class
use Rattle.crs_value.specs.inner.Prelude.{ReadsUnit}
use Rattle.crs_writer.proofs.FoundLemmas.{first-said}
use Rattle.crs_writer.proofs.FlatLemmas.{written}
use Rattle.crs_writer.proofs.spelling.frame_parts.EllipsoidReadAs.write_of.Goals as goal

pub returns : goal.returns
returns c = written c.write_ellipsoid.result _ _ _ c.write_ellipsoid.ensures (λ w e r.
    w e (c.text.ensures e.name r.name) (c.nth_number.ensures e.semi_major_axis r.semi_major_axis)
    (c.nth_number-2.ensures e.inverse_flattening r.inverse_flattening)
    (first-said ReadsUnit c.args.node.now class.LengthUnit _ _ _ c.first-unit.ensures c.as_ref.ensures.value r.unit) r.identifiers)
