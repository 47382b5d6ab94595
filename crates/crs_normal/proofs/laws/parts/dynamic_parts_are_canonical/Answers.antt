use Rattle.std.proofs.Common.{arith}
use Rattle.crs_shape.specs.declared.class.Class.TheVariants as class
use Rattle.crs_normal.specs.inner.SpelledCrs.{item_deformation_model, item_dynamic}
use Rattle.crs_normal.proofs.made.PartLemmas.{dynamic-made, deformation-model-made}
use Rattle.crs_normal.proofs.normal.SingleLemmas.{dynamic-form}
use Rattle.crs_normal.proofs.normal.UnitLemmas.{deformation_model-form}
use Rattle.crs_normal.proofs.parts.PartLemmas.{canonical-of, unchecked}
use Rattle.crs_normal.proofs.read.CrsLemmas.{deformation-model-read, dynamic-read}
use Rattle.crs_normal.proofs.same.DynamicLemmas.{dynamic-agrees}
use Rattle.crs_normal.proofs.same.PartLemmas.{decides-parts}
use Rattle.crs_normal.proofs.same.UnitLemmas.{named-agrees}
use Rattle.crs_normal.proofs.laws.parts.dynamic_parts_are_canonical.Goals as goal

pub returns : goal.returns
returns c = record {
  deformation_model = λ level. canonical-of c.lower_laws.ensures item_deformation_model (record {
    decides = named-agrees c.sets_decide.ensures.idents level;
    made = deformation-model-made c.lower_laws.ensures level;
    reads = deformation-model-read level;
    once = c.parts_read_once.ensures.deformation_model;
    sound = c.parts_are_sound.ensures.deformation_model class.DeformationModel;
    own = unchecked (deformation_model-form level class.DeformationModel);
  }) (omega arith);
  dynamic = λ level. canonical-of c.lower_laws.ensures item_dynamic (record {
    decides = decides-parts (λ a b in-a in-b. (c.parts_agree_where_same.ensures level).dynamic a b) (dynamic-agrees c.lower_laws.ensures.normal_is_one c.sets_decide.ensures level);
    made = dynamic-made c.lower_laws.ensures level;
    reads = dynamic-read c.lower_laws.ensures level;
    once = c.parts_read_once.ensures.dynamic;
    sound = c.parts_are_sound.ensures.dynamic class.Dynamic;
    own = unchecked (dynamic-form c.lower_laws.ensures.plain_one level class.Dynamic);
  }) (omega arith);
}
