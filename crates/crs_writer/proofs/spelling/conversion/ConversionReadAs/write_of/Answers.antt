use Rattle.crs_shape.specs.declared.class.Class.TheVariants as class
use Rattle.crs_value.specs.inner.Prelude.{ReadsParameter, ReadsNamed}
use Rattle.crs_writer.proofs.FoundLemmas.{all-said, one-said}
use Rattle.crs_writer.proofs.FlatLemmas.{written}
use Rattle.crs_writer.proofs.spelling.conversion.ConversionReadAs.write_of.Goals as goal

pub returns : goal.returns
returns c = written c.write_conversion.result _ _ _ c.write_conversion.ensures (λ w x r.
    w x (c.text.ensures x.name r.name) (one-said ReadsNamed c.args.node.now class.Method _ _ _ c.first-method.ensures c.as_ref.ensures.value r.method)
    (all-said ReadsParameter class.Parameter _ _ _ _ c.all-parameters.ensures.class c.all-parameters.ensures.all r.parameters) r.identifiers)
