use Rattle.crs_shape.specs.declared.class.Class.TheVariants as class
use Rattle.crs_value.specs.inner.Prelude.{ReadsVertical}
use Rattle.crs_writer.proofs.FoundLemmas.{one-said}
use Rattle.crs_writer.proofs.FlatLemmas.{written}
use Rattle.crs_writer.proofs.spelling.crs.CompoundReadAs.write_of.Goals as goal

pub returns : goal.returns
returns c = written c.write_compound.result _ _ _ c.write_compound.ensures (λ w p r.
    w p (c.text.ensures p.name r.name) r.horizontal
    (one-said ReadsVertical c.args.node.now class.VerticalCrs _ _ _ c.first-vertical.ensures c.as_ref.ensures.value r.vertical) r.tail)
