use Rattle.crs_shape.specs.declared.class.Class.TheVariants as class
use Rattle.crs_value.specs.inner.Prelude.{ReadsConversion, ReadsBase}
use Rattle.crs_writer.proofs.FoundLemmas.{one-said}
use Rattle.crs_writer.proofs.FlatLemmas.{written}
use Rattle.crs_writer.proofs.spelling.crs.ProjectedReadAs.write_of.Goals as goal

pub returns : goal.returns
returns c = written c.write_projected.result _ _ _ c.write_projected.ensures (λ w p r.
    w p (c.text.ensures p.name r.name) (one-said ReadsBase c.args.node.now class.BaseCrs _ _ _ c.first-base.ensures c.as_ref.ensures.value r.base)
    (one-said ReadsConversion c.args.node.now class.Conversion _ _ _ c.first-conversion.ensures c.as_ref-2.ensures.value r.conversion) r.system r.tail)
