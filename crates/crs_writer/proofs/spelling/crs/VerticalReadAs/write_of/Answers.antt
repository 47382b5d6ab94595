use Rattle.crs_shape.specs.declared.class.Class.TheVariants as class
use Rattle.crs_value.specs.inner.Prelude.{ReadsDynamic, ReadsNamed}
use Rattle.crs_writer.proofs.FoundLemmas.{all-said, first-said}
use Rattle.crs_writer.proofs.FlatLemmas.{written}
use Rattle.crs_writer.proofs.spelling.crs.VerticalReadAs.write_of.Goals as goal

pub returns : goal.returns
returns c = written c.write_vertical.result _ _ _ c.write_vertical.ensures (λ w v r.
    w v (c.text.ensures v.name r.name)
    (first-said ReadsDynamic c.args.node.now class.Dynamic _ _ _ c.first-dynamic.ensures c.as_ref.ensures.value r.dynamic)
    r.frame r.system (all-said ReadsNamed class.GeoidModel _ _ _ _ c.all-models.ensures.class c.all-models.ensures.all r.geoid_models) r.tail)
