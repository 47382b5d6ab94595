use Rattle.std.proofs.Common.{arith, codes}
use Rattle.crs_shape.specs.declared.class.Class.TheVariants as class
use Rattle.crs_normal.specs.inner.SpelledCrs.{item_conversion, item_geoid_model, item_method, item_parameter, norm_geoid_model, norm_parameter}
use Rattle.crs_normal.proofs.made.FrameLemmas.{conversion-made, parameter-made}
use Rattle.crs_normal.proofs.made.PartLemmas.{geoid-model-made, method-made}
use Rattle.crs_normal.proofs.members.MemberLemmas.{named-kept, named-read}
use Rattle.crs_normal.proofs.members.ParameterLemmas.{parameter-kept, parameter-read}
use Rattle.crs_normal.proofs.normal.UnitLemmas.{conversion-form, geoid_model-form, method-form, parameter-form}
use Rattle.crs_normal.proofs.parts.PartLemmas.{canonical-of, unchecked}
use Rattle.crs_normal.proofs.read.CrsLemmas.{conversion-read, method-read}
use Rattle.crs_normal.proofs.read.ViewLemmas.{keyword-names}
use Rattle.crs_normal.proofs.same.ConversionLemmas.{conversion-agrees, method-agrees, parameter-agrees}
use Rattle.crs_normal.proofs.same.PartLemmas.{decides-parts}
use Rattle.crs_normal.proofs.same.UnitLemmas.{named-agrees}
use Rattle.crs_normal.proofs.laws.parts.conversions_are_canonical.Goals as goal

pub returns : goal.returns
returns c = record {
  method = λ level. canonical-of c.lower_laws.ensures item_method (record {
    decides = decides-parts (λ a b in-a in-b. (c.parts_agree_where_same.ensures level).method a b) (method-agrees c.sets_decide.ensures level);
    made = method-made c.lower_laws.ensures level;
    reads = method-read level;
    once = c.parts_read_once.ensures.method;
    sound = c.parts_are_sound.ensures.method class.Method;
    own = unchecked (method-form level class.Method);
  }) (omega arith);
  parameter = λ level. canonical-of c.lower_laws.ensures item_parameter (record {
    decides = parameter-agrees c.lower_laws.ensures.normal_is_one c.sets_decide.ensures.idents level;
    made = parameter-made c.lower_laws.ensures level;
    reads = λ x s. parameter-read c.lower_laws.ensures (norm_parameter level x) (parameter-kept level x s);
    once = c.members_read_once.ensures.parameter;
    sound = c.parts_are_sound.ensures.parameter class.Parameter;
    own = unchecked (parameter-form c.lower_laws.ensures.plain_one level class.Parameter);
  }) (omega arith);
  conversion = λ level. canonical-of c.lower_laws.ensures item_conversion (record {
    decides = decides-parts (λ a b in-a in-b. (c.parts_agree_where_same.ensures level).conversion a b) (conversion-agrees c.sets_decide.ensures level);
    made = conversion-made c.lower_laws.ensures level;
    reads = conversion-read c.lower_laws.ensures level;
    once = c.parts_read_once.ensures.conversion;
    sound = c.parts_are_sound.ensures.conversion class.Conversion;
    own = unchecked (conversion-form c.lower_laws.ensures.plain_one level class.Conversion);
  }) (omega arith);
  geoid_model = λ level. canonical-of c.lower_laws.ensures item_geoid_model (record {
    decides = named-agrees c.sets_decide.ensures.idents level;
    made = geoid-model-made c.lower_laws.ensures level;
    reads = λ x s. named-read class.GeoidModel (codes "GEOIDMODEL") (keyword-names _ _) (norm_geoid_model level x) (named-kept level x s);
    once = c.members_read_once.ensures.geoid_model;
    sound = c.parts_are_sound.ensures.geoid_model class.GeoidModel;
    own = unchecked (geoid_model-form level class.GeoidModel);
  }) (omega arith);
}
