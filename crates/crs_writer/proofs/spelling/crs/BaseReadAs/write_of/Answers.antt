use Rattle.crs_shape.specs.declared.class.Class.TheVariants as class
use Rattle.crs_value.specs.inner.Prelude.{ReadsMeridian, ReadsUnit, ReadsDynamic}
use Rattle.crs_writer.proofs.FoundLemmas.{first-said}
use Rattle.crs_writer.proofs.FlatLemmas.{written}
use Rattle.crs_writer.proofs.spelling.crs.BaseReadAs.write_of.Goals as goal

pub returns : goal.returns
returns c = written c.write_base.result _ _ _ c.write_base.ensures (λ w b r.
    w b.name b.dynamic b.frame b.meridian b.unit b.identifiers (c.text.ensures b.name r.name)
    (first-said ReadsDynamic c.args.node.now class.Dynamic _ _ _ c.first-dynamic.ensures c.as_ref.ensures.value r.dynamic) r.frame
    (first-said ReadsMeridian c.args.node.now class.PrimeMeridian _ _ _ c.first-meridian.ensures c.as_ref-2.ensures.value r.meridian)
    (first-said ReadsUnit c.args.node.now class.AngleUnit _ _ _ c.first-unit.ensures c.as_ref-3.ensures.value r.unit) r.identifiers)
