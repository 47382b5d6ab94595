use Rattle.crs_shape.specs.declared.class.Class.TheVariants as class
use Rattle.crs_value.specs.inner.Prelude.{ReadsEllipsoid}
use Rattle.crs_writer.proofs.FoundLemmas.{first-said}
use Rattle.crs_writer.proofs.FlatLemmas.{written}
use Rattle.crs_writer.proofs.spelling.frame.write_datum_of.Goals as goal

pub returns : goal.returns
returns c = written c.write_datum.result _ _ _ c.write_datum.ensures (λ w d r.
    w d (c.text.ensures d.name r.name)
    (first-said ReadsEllipsoid c.args.node.now class.Ellipsoid _ _ _ c.first-ellipsoid.ensures c.as_ref.ensures.value r.ellipsoid)
    (c.text_in.ensures d.anchor r.anchor) (c.number_in.ensures d.anchor_epoch r.anchor_epoch) r.identifiers)
