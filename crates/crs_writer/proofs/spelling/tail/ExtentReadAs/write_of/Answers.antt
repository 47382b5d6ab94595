use Rattle.crs_shape.specs.declared.class.Class.TheVariants as class
use Rattle.crs_value.specs.inner.Prelude.{ReadsUnit}
use Rattle.crs_writer.proofs.FoundLemmas.{first-said}
use Rattle.crs_writer.proofs.FlatLemmas.{written}
use Rattle.crs_writer.proofs.spelling.tail.ExtentReadAs.write_of.Goals as goal

pub returns : goal.returns
returns c = written c.write_extent.result _ _ _ c.write_extent.ensures (λ w e r.
    w e.minimum e.maximum e.unit (c.nth_number-minimum.ensures e.minimum r.minimum) (c.nth_number-maximum.ensures e.maximum r.maximum)
    (first-said ReadsUnit c.args.node.now class.LengthUnit _ _ _ c.first-unit.ensures c.as_ref.ensures.value r.unit))
