-- What sound axes say is sound.
use Rattle.crs_decimal.specs.inner.Prelude.{IsNormal}
use Rattle.crs_shape.specs.declared.class.Class.{Class}
use Rattle.crs_shape.specs.declared.class.Class.TheVariants as class
use Rattle.crs_shape.specs.declared.unit_kind.UnitKind.TheVariants as kinds
use Rattle.crs_value.specs.Reads.{ReadsNumberOf, ReadsUnit, ReadsAxisMeridian, ReadsAxis}
use Rattle.crs_value.specs.Sound.{IsUnitOf, IsAxisUnit, IsAxisMeridian, IsAxis}
use Rattle.crs_value.proofs.sound.PartLemmas.{Tells, first-tells, optional-tells, text-of-tells, number-of-tells, identifiers-tell, angle-tells, axis-unit-tells}

pub axis-meridian-tells : (c : Class) → Tells c (ReadsAxisMeridian c) IsAxisMeridian
axis-meridian-tells c item value sound reads = record {
  longitude = number-of-tells c item value.longitude sound reads.longitude;
  unit = first-tells (ReadsUnit class.AngleUnit) (IsUnitOf kinds.Angle) c class.AngleUnit angle-tells item value.unit sound reads.unit;
}

pub axis-tells : (c : Class) → Tells c (ReadsAxis c) IsAxis
axis-tells c item value sound reads = record {
  name = text-of-tells c item value.name sound reads.name;
  meridian = optional-tells (ReadsAxisMeridian class.AxisMeridian) IsAxisMeridian c class.AxisMeridian (axis-meridian-tells class.AxisMeridian) item value.meridian sound reads.meridian;
  order = optional-tells (ReadsNumberOf class.Order) IsNormal c class.Order (number-of-tells class.Order) item value.order sound reads.order;
  unit = optional-tells (ReadsUnit class.AxisUnit) IsAxisUnit c class.AxisUnit axis-unit-tells item value.unit sound reads.unit;
  identifiers = identifiers-tell c item value.identifiers sound reads.identifiers;
}
