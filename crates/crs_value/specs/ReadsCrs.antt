-- What coordinate reference systems say.
use Rattle.std.specs.Prelude.{◌≡◌}
use Rattle.crs_text.specs.Items.{Item}
use Rattle.crs_shape.specs.declared.class.Class.{Class}
use Rattle.crs_shape.specs.declared.class.Class.TheVariants as class
use Rattle.crs_shape.specs.declared.system_type.SystemType.{SystemType}
use Rattle.crs_shape.specs.declared.system_type.SystemType.TheVariants as types
use Rattle.crs_value.specs.declared.values.compound.Horizontal.{Horizontal}
use Rattle.crs_value.specs.declared.values.compound.Horizontal.TheVariants as horizontal
use Rattle.crs_value.specs.declared.values.crs.Crs.{Crs}
use Rattle.crs_value.specs.declared.values.crs.Crs.TheVariants as crs
use Rattle.crs_value.specs.declared.values.crs.Kind.{Kind}
use Rattle.crs_value.specs.declared.values.crs.Kind.TheVariants as kind
use Rattle.crs_value.specs.declared.values.frame.Frame.{Frame}
use Rattle.crs_value.specs.declared.values.frame.Frame.TheVariants as frame
use Rattle.crs_value.specs.CompoundValues.{CompoundParts}
use Rattle.crs_value.specs.CrsValues.{GeodeticParts, BaseParts, ProjectedParts, VerticalParts}
use Rattle.crs_value.specs.Reading.{ReadsOne, ReadsIfAny, ReadsAll, ReadsOneElse, ReadsTextOf, ReadsIds, ReadsNamed}
use Rattle.crs_value.specs.Reads.{ReadsUnit, ReadsDatum, ReadsEnsemble, ReadsMeridian, ReadsSystem, ReadsTail, ReadsConversion, ReadsDynamic}

-- the item is a reference frame of this class, and this is its value
abbrev pub ReadsAsDatum : Class → Item → Frame → Type 0
ReadsAsDatum d item (frame.Datum datum) = ReadsDatum d item datum
ReadsAsDatum d item (frame.Ensemble ensemble) = ⊥

-- the item is an ensemble of this class, and this is its value
abbrev pub ReadsAsEnsemble : Class → Item → Frame → Type 0
ReadsAsEnsemble e item (frame.Datum datum) = ⊥
ReadsAsEnsemble e item (frame.Ensemble ensemble) = ReadsEnsemble e item ensemble

-- the frame of a CRS: its reference frame, of the one class, or where there is none its ensemble, of the other
abbrev pub ReadsFrame : Class → Class → Class → Item → Frame → Type 0
ReadsFrame d e = ReadsOneElse ReadsAsDatum d (ReadsOne ReadsAsEnsemble e)

-- the frame of a geodetic CRS or of a base CRS: its geodetic reference frame, or else its datum ensemble
abbrev pub ReadsGeodeticFrame : Class → Item → Frame → Type 0
ReadsGeodeticFrame = ReadsFrame class.GeodeticFrame class.GeodeticEnsemble

-- the frame of a vertical CRS: its vertical reference frame, or else its datum ensemble
abbrev pub ReadsVerticalFrame : Class → Item → Frame → Type 0
ReadsVerticalFrame = ReadsFrame class.VerticalFrame class.VerticalEnsemble

-- the classes of a geodetic or geographic CRS
abbrev pub IsGeodeticClass : Class → Type 0
IsGeodeticClass class.GeodeticCrs = Unit {0}
IsGeodeticClass class.GeographicCrs = Unit {0}
IsGeodeticClass other = ⊥

-- a geodetic or geographic CRS: its name, dynamic part, frame, prime meridian, coordinate system and end
pub record ReadsGeodetic (c : Class) (item : Item) (parts : GeodeticParts) : Type 0 where
  pub name : ReadsTextOf c item parts.name
  pub dynamic : ReadsIfAny ReadsDynamic class.Dynamic c item parts.dynamic
  pub frame : ReadsGeodeticFrame c item parts.frame
  pub meridian : ReadsIfAny ReadsMeridian class.PrimeMeridian c item parts.meridian
  pub system : ReadsSystem c item parts.system
  pub tail : ReadsTail c item parts.tail

-- the base CRS of a projected one: its name, dynamic part, frame and prime meridian, the unit of
-- its angles, if one is written, and its identifiers
pub record ReadsBase (c : Class) (item : Item) (parts : BaseParts) : Type 0 where
  pub name : ReadsTextOf c item parts.name
  pub dynamic : ReadsIfAny ReadsDynamic class.Dynamic c item parts.dynamic
  pub frame : ReadsGeodeticFrame c item parts.frame
  pub meridian : ReadsIfAny ReadsMeridian class.PrimeMeridian c item parts.meridian
  pub unit : ReadsIfAny ReadsUnit class.AngleUnit c item parts.unit
  pub identifiers : ReadsIds c item parts.identifiers

-- a projected CRS: its name, base CRS, conversion, coordinate system and end
pub record ReadsProjected (c : Class) (item : Item) (parts : ProjectedParts) : Type 0 where
  pub name : ReadsTextOf c item parts.name
  pub base : ReadsOne ReadsBase class.BaseCrs c item parts.base
  pub conversion : ReadsOne ReadsConversion class.Conversion c item parts.conversion
  pub system : ReadsSystem c item parts.system
  pub tail : ReadsTail c item parts.tail

-- a vertical CRS: its name, dynamic part, frame, coordinate system, geoid models in order, and end
pub record ReadsVertical (c : Class) (item : Item) (parts : VerticalParts) : Type 0 where
  pub name : ReadsTextOf c item parts.name
  pub dynamic : ReadsIfAny ReadsDynamic class.Dynamic c item parts.dynamic
  pub frame : ReadsVerticalFrame c item parts.frame
  pub system : ReadsSystem c item parts.system
  pub geoid_models : ReadsAll ReadsNamed class.GeoidModel c item parts.geoid_models
  pub tail : ReadsTail c item parts.tail

-- the item is a horizontal CRS of this class, and this is its value
abbrev pub ReadsAsHorizontal : Class → Item → Horizontal → Type 0
ReadsAsHorizontal c item (horizontal.Geodetic geodetic) = IsGeodeticClass c × ReadsGeodetic c item geodetic
ReadsAsHorizontal c item (horizontal.Projected projected) = (c ≡ class.ProjectedCrs) × ReadsProjected c item projected

-- a compound's horizontal part: its geodetic, geographic or projected CRS
abbrev pub ReadsHorizontal : Class → Item → Horizontal → Type 0
ReadsHorizontal =
    ReadsOneElse ReadsAsHorizontal class.GeodeticCrs
    (ReadsOneElse ReadsAsHorizontal class.GeographicCrs
    (ReadsOne ReadsAsHorizontal class.ProjectedCrs))

-- a compound CRS: its name, its horizontal part, its vertical part and its end
pub record ReadsCompound (c : Class) (item : Item) (parts : CompoundParts) : Type 0 where
  pub name : ReadsTextOf c item parts.name
  pub horizontal : ReadsHorizontal c item parts.horizontal
  pub vertical : ReadsOne ReadsVertical class.VerticalCrs c item parts.vertical
  pub tail : ReadsTail c item parts.tail

-- the value of a whole text of this class
abbrev pub ReadsCrs : Class → Item → Crs → Type 0
ReadsCrs c item (crs.Geodetic geodetic) = IsGeodeticClass c × ReadsGeodetic c item geodetic
ReadsCrs c item (crs.Projected projected) = (c ≡ class.ProjectedCrs) × ReadsProjected c item projected
ReadsCrs c item (crs.Vertical vertical) = (c ≡ class.VerticalCrs) × ReadsVertical c item vertical
ReadsCrs c item (crs.Compound compound) = (c ≡ class.CompoundCrs) × ReadsCompound c item compound

-- a geodetic CRS is geographic exactly if its coordinate system is ellipsoidal
abbrev pub kind_by : SystemType → Kind
kind_by types.Ellipsoidal = kind.Geographic
kind_by other = kind.Geodetic

-- the kind of a CRS; a geodetic one is geographic or not by its coordinate system
abbrev pub kind_of : Crs → Kind
kind_of (crs.Geodetic geodetic) = kind_by geodetic.system.system_type
kind_of (crs.Projected projected) = kind.Projected
kind_of (crs.Vertical vertical) = kind.Vertical
kind_of (crs.Compound compound) = kind.Compound
