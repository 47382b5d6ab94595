use Rattle.std.proofs.Common.{arith}
use Rattle.crs_shape.specs.declared.class.Class.TheVariants as class
use Rattle.crs_normal.specs.inner.SpelledItems.{item_box, item_extent, norm_extent}
use Rattle.crs_normal.proofs.made.TailLemmas.{box-made, extent-made}
use Rattle.crs_normal.proofs.members.MemberLemmas.{box-read, extent-kept, extent-read}
use Rattle.crs_normal.proofs.normal.FrameLemmas.{box-form, extent-form}
use Rattle.crs_normal.proofs.parts.PartLemmas.{canonical-of, unchecked}
use Rattle.crs_normal.proofs.same.UsageLemmas.{box-agrees, extent-agrees}
use Rattle.crs_normal.proofs.laws.parts.extents_are_canonical.Goals as goal

pub returns : goal.returns
returns c = record {
  bounding_box = λ level. canonical-of c.lower_laws.ensures item_box (record {
    decides = box-agrees c.lower_laws.ensures.normal_is_one;
    made = box-made c.lower_laws.ensures level;
    reads = box-read c.lower_laws.ensures;
    once = c.parts_read_once.ensures.bounding_box;
    sound = c.parts_are_sound.ensures.bounding_box class.BoundingBox;
    own = unchecked (box-form c.lower_laws.ensures.plain_one level class.BoundingBox);
  }) (omega arith);
  extent = λ level. canonical-of c.lower_laws.ensures item_extent (record {
    decides = extent-agrees c.lower_laws.ensures.normal_is_one c.sets_decide.ensures.idents level;
    made = extent-made c.lower_laws.ensures level;
    reads = λ x s. extent-read c.lower_laws.ensures (norm_extent level x) (extent-kept level x s);
    once = c.members_read_once.ensures.extent;
    sound = c.parts_are_sound.ensures.extent class.VerticalExtent;
    own = unchecked (extent-form c.lower_laws.ensures.plain_one level class.VerticalExtent);
  }) (omega arith);
}
