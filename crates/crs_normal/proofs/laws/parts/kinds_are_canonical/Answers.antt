use Rattle.std.proofs.Common.{arith}
use Rattle.crs_shape.specs.declared.class.Class.TheVariants as class
use Rattle.crs_normal.specs.PartSpellings.{geodetic_class}
use Rattle.crs_normal.specs.inner.SpelledCrs.{item_base, item_compound, item_geodetic, item_projected, item_vertical}
use Rattle.crs_normal.proofs.made.CompoundLemmas.{compound-made, geodetic-made, names-of}
use Rattle.crs_normal.proofs.made.SingleLemmas.{base-made, projected-made, vertical-made}
use Rattle.crs_normal.proofs.normal.CompoundLemmas.{compound-form}
use Rattle.crs_normal.proofs.normal.SingleLemmas.{base-form, projected-form, vertical-form}
use Rattle.crs_normal.proofs.parts.PartKindLemmas.{geodetic-told, own-geodetic}
use Rattle.crs_normal.proofs.parts.PartLemmas.{canonical-by, canonical-of, good-of, made-stands}
use Rattle.crs_normal.proofs.read.CompoundLemmas.{compound-read}
use Rattle.crs_normal.proofs.read.CrsLemmas.{base-read, geodetic-read, projected-read, vertical-read}
use Rattle.crs_normal.proofs.same.CrsLemmas.{base-agrees, compound-agrees, geodetic-agrees, projected-agrees, vertical-agrees}
use Rattle.crs_normal.proofs.same.PartLemmas.{decides-parts}
use Rattle.crs_normal.proofs.texts.RootLemmas.{is-geodetic}
use Rattle.crs_normal.proofs.laws.parts.kinds_are_canonical.Goals as goal

pub returns : goal.returns
returns c = record {
  base = λ level. canonical-of c.lower_laws.ensures item_base (record {
    decides = decides-parts (λ a b in-a in-b. (c.parts_agree_where_same.ensures level).base a b) (base-agrees c.lower_laws.ensures c.sets_decide.ensures level);
    made = base-made c.lower_laws.ensures level;
    reads = base-read c.lower_laws.ensures level;
    once = c.parts_read_once.ensures.base;
    sound = c.parts_are_sound.ensures.base;
    own = base-form c.lower_laws.ensures.plain_one c.lower_laws.ensures.zero_plain level class.BaseCrs;
  }) (omega arith);
  geodetic = λ level. let laws = c.lower_laws.ensures in
      let decides = decides-parts (c.parts_agree_where_same.ensures level).geodetic (geodetic-agrees laws c.sets_decide.ensures level) in
      canonical-by laws item_geodetic (record {
        decides = decides;
        made = λ x s. made-stands (omega arith) (geodetic-made laws level x s 0);
        reads = λ x s. geodetic-read laws (geodetic_class x.system.system_type) (names-of x.system.system_type) level x s 0;
        told = geodetic-told level (c.written_forms_are_equal_where_same.ensures level) decides;
        sound = λ x s. c.kinds_are_sound.ensures.geodetic (geodetic_class x.system.system_type)
            (is-geodetic x.system.system_type);
        own = λ x s i v sound normal reads. own-geodetic laws level x.system.system_type i v (good-of sound normal) (sound.unbroken, reads);
      });
  projected = λ level. canonical-of c.lower_laws.ensures item_projected (record {
    decides = decides-parts (c.parts_agree_where_same.ensures level).projected (projected-agrees c.lower_laws.ensures c.sets_decide.ensures level);
    made = projected-made c.lower_laws.ensures level;
    reads = projected-read c.lower_laws.ensures level;
    once = c.parts_read_once.ensures.projected;
    sound = c.kinds_are_sound.ensures.projected;
    own = projected-form c.lower_laws.ensures level class.ProjectedCrs;
  }) (omega arith);
  vertical = λ level. canonical-of c.lower_laws.ensures item_vertical (record {
    decides = decides-parts (c.parts_agree_where_same.ensures level).vertical (vertical-agrees c.lower_laws.ensures c.sets_decide.ensures level);
    made = vertical-made c.lower_laws.ensures level;
    reads = vertical-read c.lower_laws.ensures level;
    once = c.parts_read_once.ensures.vertical;
    sound = c.kinds_are_sound.ensures.vertical;
    own = vertical-form c.lower_laws.ensures level class.VerticalCrs;
  }) (omega arith);
  compound = λ level. canonical-of c.lower_laws.ensures item_compound (record {
    decides = decides-parts (c.parts_agree_where_same.ensures level).compound (compound-agrees c.lower_laws.ensures c.sets_decide.ensures level);
    made = compound-made c.lower_laws.ensures level;
    reads = compound-read c.lower_laws.ensures level;
    once = c.parts_read_once.ensures.compound;
    sound = c.kinds_are_sound.ensures.compound;
    own = compound-form c.lower_laws.ensures level class.CompoundCrs;
  }) (omega arith);
}
