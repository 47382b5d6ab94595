use Rattle.std.proofs.Common.{arith, codes}
use Rattle.crs_shape.specs.declared.class.Class.TheVariants as class
use Rattle.crs_normal.specs.inner.SpelledFrames.{item_ellipsoid, item_member, item_meridian, norm_member}
use Rattle.crs_normal.specs.inner.SpelledCrs.{item_axis_meridian}
use Rattle.crs_normal.proofs.made.AxisLemmas.{axis-meridian-made}
use Rattle.crs_normal.proofs.made.PartLemmas.{ellipsoid-made, member-made}
use Rattle.crs_normal.proofs.made.FrameLemmas.{meridian-made}
use Rattle.crs_normal.proofs.members.MemberLemmas.{named-kept, named-read}
use Rattle.crs_normal.proofs.normal.UnitLemmas.{axis_meridian-form, member-form}
use Rattle.crs_normal.proofs.normal.FrameLemmas.{ellipsoid-form, meridian-form}
use Rattle.crs_normal.proofs.parts.PartLemmas.{canonical-of, unchecked}
use Rattle.crs_normal.proofs.read.FrameLemmas.{ellipsoid-read, given-read, axis-meridian-read}
use Rattle.crs_normal.proofs.read.ViewLemmas.{keyword-names}
use Rattle.crs_normal.proofs.same.AxisLemmas.{axis-meridian-agrees}
use Rattle.crs_normal.proofs.same.FrameLemmas.{ellipsoid-agrees, given-agrees}
use Rattle.crs_normal.proofs.same.PartLemmas.{decides-parts}
use Rattle.crs_normal.proofs.same.UnitLemmas.{named-agrees}
use Rattle.crs_normal.proofs.laws.parts.frame_parts_are_canonical.Goals as goal

pub returns : goal.returns
returns c = record {
  ellipsoid = λ level. canonical-of c.lower_laws.ensures item_ellipsoid (record {
    decides = decides-parts (λ a b in-a in-b. (c.parts_agree_where_same.ensures level).ellipsoid a b) (ellipsoid-agrees c.lower_laws.ensures.normal_is_one c.sets_decide.ensures level);
    made = ellipsoid-made c.lower_laws.ensures level;
    reads = ellipsoid-read c.lower_laws.ensures level;
    once = c.parts_read_once.ensures.ellipsoid;
    sound = c.parts_are_sound.ensures.ellipsoid;
    own = unchecked (ellipsoid-form c.lower_laws.ensures.plain_one level class.Ellipsoid);
  }) (omega arith);
  meridian = λ level. canonical-of c.lower_laws.ensures item_meridian (record {
    decides = decides-parts (λ a b in-a in-b. (c.parts_agree_where_same.ensures level).given a b) (given-agrees c.lower_laws.ensures.normal_is_one c.sets_decide.ensures level);
    made = meridian-made c.lower_laws.ensures level;
    reads = given-read c.lower_laws.ensures level;
    once = c.parts_read_once.ensures.meridian;
    sound = c.parts_are_sound.ensures.meridian class.PrimeMeridian;
    own = unchecked (meridian-form c.lower_laws.ensures.plain_one c.lower_laws.ensures.zero_plain level class.PrimeMeridian);
  }) (omega arith);
  member = λ level. canonical-of c.lower_laws.ensures item_member (record {
    decides = named-agrees c.sets_decide.ensures.idents level;
    made = member-made c.lower_laws.ensures level;
    reads = λ x s. named-read class.Member (codes "MEMBER") (keyword-names _ _) (norm_member level x) (named-kept level x s);
    once = c.members_read_once.ensures.member;
    sound = c.parts_are_sound.ensures.member class.Member;
    own = unchecked (member-form level class.Member);
  }) (omega arith);
  along = λ level. canonical-of c.lower_laws.ensures item_axis_meridian (record {
    decides = axis-meridian-agrees c.lower_laws.ensures c.sets_decide.ensures level;
    made = axis-meridian-made c.lower_laws.ensures level;
    reads = axis-meridian-read c.lower_laws.ensures level;
    once = c.parts_read_once.ensures.along;
    sound = c.parts_are_sound.ensures.along class.AxisMeridian;
    own = unchecked (axis_meridian-form c.lower_laws.ensures.plain_one level class.AxisMeridian);
  }) (omega arith);
}
