use Rattle.crs_shape.specs.declared.class.Class.TheVariants as class
use Rattle.crs_value.specs.inner.Prelude.{ReadsNamed}
use Rattle.crs_writer.proofs.FoundLemmas.{first-said}
use Rattle.crs_writer.proofs.FlatLemmas.{written}
use Rattle.crs_writer.proofs.spelling.frame_parts.DynamicReadAs.write_of.Goals as goal

pub returns : goal.returns
returns c = written c.write_dynamic.result _ _ _ c.write_dynamic.ensures (λ w d r.
    w d.epoch d.model (c.one_number-epoch.ensures d.epoch r.epoch)
    (first-said ReadsNamed c.args.node.now class.DeformationModel _ _ _ c.first-model.ensures c.as_ref.ensures.value r.model))
