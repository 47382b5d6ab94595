use Rattle.std.proofs.Common.{refl}
use Rattle.crs_shape.specs.declared.class.Class.TheVariants as class
use Rattle.crs_value.proofs.sound.AxisLemmas.{axis-meridian-tells, axis-tells}
use Rattle.crs_value.proofs.sound.CrsLemmas.{conversion-tells, parameter-tells, base-tells, geodetic-datum-tells, geodetic-ensemble-tells, vertical-datum-tells, vertical-ensemble-tells, dynamic-tells}
use Rattle.crs_value.proofs.sound.FrameLemmas.{ellipsoid-tells, meridian-tells}
use Rattle.crs_value.proofs.sound.PartLemmas.{ident-tells, named-tells, unit-tells}
use Rattle.crs_value.proofs.sound.CrsLemmas.{box-tells, extent-tells, says-some, usage-tells}
use Rattle.crs_value.proofs.laws.parts.parts_are_sound.Goals as goal

pub returns : goal.returns
returns c = record {
  ident = ident-tells;
  unit = unit-tells;
  along = axis-meridian-tells;
  axis = axis-tells;
  ellipsoid = ellipsoid-tells class.Ellipsoid refl;
  meridian = meridian-tells;
  member = named-tells;
  datum = geodetic-datum-tells c.slots_count.ensures.least;
  vertical_datum = vertical-datum-tells c.slots_count.ensures.most;
  ensemble = geodetic-ensemble-tells c.slots_count.ensures.least;
  vertical_ensemble = vertical-ensemble-tells c.slots_count.ensures.least c.slots_count.ensures.most;
  bounding_box = box-tells;
  extent = extent-tells;
  method = named-tells;
  parameter = parameter-tells;
  conversion = conversion-tells;
  geoid_model = named-tells;
  deformation_model = named-tells;
  dynamic = dynamic-tells;
  base = base-tells c.slots_count.ensures.least;
  usage = λ item value s r. usage-tells class.Usage item value s r (says-some c.slots_count.ensures.most item value s r);
}
