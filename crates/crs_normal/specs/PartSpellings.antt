-- Spellings: which bytes are the one spelling of a value by itself, and of a node outside a CRS.
use Rattle.std.specs.Prelude.{◌≡◌, ℕ, List, Option, Some, None}
use Rattle.crs_text.specs.Items.{Item}
use Rattle.crs_text.specs.Refusal.{RefusedAt}
use Rattle.crs_text.specs.TextFault.{SpellsNode}
use Rattle.crs_text.specs.Written.{item_text}
use Rattle.crs_shape.specs.declared.class.Class.{Class}
use Rattle.crs_shape.specs.ShapeFault.{Shaped}
use Rattle.crs_value.specs.Checks.{Breaks}
use Rattle.crs_value.specs.declared.values.level.Level.{Level}
use Rattle.crs_normal.specs.Normal.{IsNormalIn}
use Rattle.crs_shape.specs.declared.system_type.SystemType.{SystemType}
use Rattle.crs_shape.specs.declared.unit_kind.UnitKind.{UnitKind}
use Rattle.crs_value.specs.CompoundValues.{CompoundParts}
use Rattle.crs_value.specs.Values.{ConversionParts, GeoidModelParts, MethodParts, ParameterParts, DeformationModelParts, DynamicParts, AxisMeridianParts, BoxParts, DatumParts, EllipsoidParts, EnsembleParts, ExtentParts, IdentParts, MemberParts, MeridianParts, UnitParts, UsageParts}
use Rattle.crs_value.specs.CrsValues.{BaseParts, GeodeticParts, ProjectedParts, VerticalParts}
use Rattle.crs_value.specs.Reads.{ReadsAxisMeridian, ReadsBox, ReadsDatum, ReadsEllipsoid, ReadsEnsemble, ReadsExtent, ReadsIdent, ReadsMember, ReadsMeridian, ReadsUnit, ReadsUsage, ReadsConversion, ReadsGeoidModel, ReadsMethod, ReadsParameter, ReadsDeformationModel, ReadsDynamic}
use Rattle.crs_value.specs.ReadsCrs.{ReadsBase, ReadsCompound, ReadsGeodetic, ReadsProjected, ReadsVertical}
use Rattle.crs_value.specs.SoundParts.{IsDatum, IsEnsemble}
use Rattle.crs_value.specs.declared.values.compound.Horizontal.{Horizontal}
use Rattle.crs_value.specs.declared.values.frame.Frame.{Frame}
use Rattle.crs_same.specs.Parts.{AreSame, parts_of_method, parts_of_conversion, parts_of_base, parts_of_geodetic, parts_of_projected, parts_of_vertical, parts_of_compound, parts_of_ellipsoid, parts_of_given, parts_of_datum, parts_of_ensemble}
use Rattle.crs_same.specs.SameParts.{SameGeoidModel, SameParameter, SameDeformationModel, SameMember, SameAxisMeridian, SameUnit, SameBox, SameExtent, SameUsage}
use Rattle.crs_same.specs.SameCrs.{SameDynamic}
use Rattle.crs_same.specs.SameIdents.{SameIdent}
use Rattle.crs_shape.specs.declared.class.Class.TheVariants as class
use Rattle.crs_shape.specs.declared.system_type.SystemType.TheVariants as types
use Rattle.crs_shape.specs.declared.unit_kind.UnitKind.TheVariants as kinds
use Rattle.crs_value.specs.declared.values.compound.Horizontal.TheVariants as horizontal
use Rattle.crs_value.specs.declared.values.frame.Frame.TheVariants as frame
use Rattle.crs_value.specs.declared.values.level.Level.TheVariants as levels
pub use Rattle.crs_same.specs.SameCrs.{IsHorizontalPart}

-- the bytes are a node of this class, written without white space and in square delimiters; it has the shape of its
-- class, breaks no check and is normal in this sense, and a value that is the same is read from it
pub record IsSpelledBy {V : Type 0} (c : Class) (IsNormal : Item → Type 0)
    (Reads : Class → Item → V → Type 0) (Same : V → V → Type 0) (value : V) (bytes : List ℕ) : Type 0 where
  pub item : Item
  pub spells : SpellsNode bytes item
  pub written : bytes ≡ item_text item
  pub shaped : Shaped c item
  pub unbroken : (fault : RefusedAt) → ¬ (Breaks c item fault)
  pub normal : IsNormal item
  pub read : V
  pub reads : Reads c item read
  pub same : Same value read

-- normal as one of its class at the level
abbrev pub IsSpelledAs : {V : Type 0} → Level → Class → (Class → Item → V → Type 0) → (V → V → Type 0) →
    V → List ℕ → Type 0
IsSpelledAs level c = IsSpelledBy c (IsNormalIn level c c)

-- ---- which bytes are the one spelling of a node by itself, outside a CRS

-- the one spelling of an identifier by itself: with all that it holds, at each level
abbrev pub IsSpelledIdent : Level → IdentParts → List ℕ → Type 0
IsSpelledIdent level = IsSpelledAs levels.Full class.Identifier ReadsIdent SameIdent

-- the class of a unit by itself, by its kind: `UNIT` is a kind of its own
abbrev pub unit_class : UnitKind → Class
unit_class kinds.Length = class.LengthUnit
unit_class kinds.Angle = class.AngleUnit
unit_class kinds.Scale = class.ScaleUnit
unit_class kinds.Plain = class.PlainUnit

-- the one spelling of a unit by itself
abbrev pub IsSpelledUnit : Level → UnitParts → List ℕ → Type 0
IsSpelledUnit level unit = IsSpelledAs level (unit_class unit.kind) ReadsUnit (SameUnit kinds.Plain level) unit

-- the one spelling of the meridian of an axis by itself: its unit is one of angle
abbrev pub IsSpelledAxisMeridian : Level → AxisMeridianParts → List ℕ → Type 0
IsSpelledAxisMeridian level = IsSpelledAs level class.AxisMeridian ReadsAxisMeridian (SameAxisMeridian level)

-- ---- frames

-- the one spelling of an ellipsoid by itself
abbrev pub IsSpelledEllipsoid : Level → EllipsoidParts → List ℕ → Type 0
IsSpelledEllipsoid level = IsSpelledAs level class.Ellipsoid ReadsEllipsoid (AreSame parts_of_ellipsoid level)

-- the one spelling of a prime meridian by itself
abbrev pub IsSpelledMeridian : Level → MeridianParts → List ℕ → Type 0
IsSpelledMeridian level = IsSpelledAs level class.PrimeMeridian ReadsMeridian (AreSame parts_of_given level)

-- the one spelling of a member of an ensemble by itself
abbrev pub IsSpelledMember : Level → MemberParts → List ℕ → Type 0
IsSpelledMember level = IsSpelledAs level class.Member ReadsMember (SameMember level)

-- a reference frame by itself is geodetic where it has an ellipsoid, else vertical
abbrev pub datum_class : Option EllipsoidParts → Class
datum_class None = class.VerticalFrame
datum_class (Some ellipsoid) = class.GeodeticFrame

-- an ensemble by itself is geodetic where it has an ellipsoid, else vertical
abbrev pub ensemble_class : Option EllipsoidParts → Class
ensemble_class None = class.VerticalEnsemble
ensemble_class (Some ellipsoid) = class.GeodeticEnsemble

-- the one spelling of a reference frame by itself
abbrev pub IsSpelledDatum : Level → DatumParts → List ℕ → Type 0
IsSpelledDatum level datum =
    IsSpelledAs level (datum_class datum.ellipsoid) ReadsDatum (AreSame parts_of_datum level) datum

-- the one spelling of a datum ensemble by itself
abbrev pub IsSpelledEnsemble : Level → EnsembleParts → List ℕ → Type 0
IsSpelledEnsemble level ensemble =
    IsSpelledAs level (ensemble_class ensemble.ellipsoid) ReadsEnsemble
    (AreSame parts_of_ensemble level) ensemble

-- what is asked of a reference frame or an ensemble
abbrev pub IsFrame : Frame → Type 0
IsFrame (frame.Datum datum) = IsDatum datum
IsFrame (frame.Ensemble ensemble) = IsEnsemble ensemble

-- the one spelling of a reference frame or an ensemble by itself
abbrev pub IsSpelledFrame : Level → Frame → List ℕ → Type 0
IsSpelledFrame level (frame.Datum datum) = IsSpelledDatum level datum
IsSpelledFrame level (frame.Ensemble ensemble) = IsSpelledEnsemble level ensemble

-- ---- dynamic parts

-- the one spelling of a deformation model by itself
abbrev pub IsSpelledDeformationModel : Level → DeformationModelParts → List ℕ → Type 0
IsSpelledDeformationModel level =
    IsSpelledAs level class.DeformationModel ReadsDeformationModel (SameDeformationModel level)

-- the one spelling of a dynamic part by itself
abbrev pub IsSpelledDynamic : Level → DynamicParts → List ℕ → Type 0
IsSpelledDynamic level = IsSpelledAs level class.Dynamic ReadsDynamic (SameDynamic level)

-- ---- conversions and geoid models

-- the one spelling of a method by itself
abbrev pub IsSpelledMethod : Level → MethodParts → List ℕ → Type 0
IsSpelledMethod level = IsSpelledAs level class.Method ReadsMethod (AreSame parts_of_method level)

-- the one spelling of a parameter by itself
abbrev pub IsSpelledParameter : Level → ParameterParts → List ℕ → Type 0
IsSpelledParameter level = IsSpelledAs level class.Parameter ReadsParameter (SameParameter level)

-- the one spelling of a conversion by itself
abbrev pub IsSpelledConversion : Level → ConversionParts → List ℕ → Type 0
IsSpelledConversion level = IsSpelledAs level class.Conversion ReadsConversion (AreSame parts_of_conversion level)

-- the one spelling of a geoid model by itself
abbrev pub IsSpelledGeoidModel : Level → GeoidModelParts → List ℕ → Type 0
IsSpelledGeoidModel level = IsSpelledAs level class.GeoidModel ReadsGeoidModel (SameGeoidModel level)

-- ---- usages

-- the one spelling of a bounding box by itself
abbrev pub IsSpelledBox : Level → BoxParts → List ℕ → Type 0
IsSpelledBox level = IsSpelledAs level class.BoundingBox ReadsBox SameBox

-- the one spelling of a vertical extent by itself
abbrev pub IsSpelledExtent : Level → ExtentParts → List ℕ → Type 0
IsSpelledExtent level = IsSpelledAs level class.VerticalExtent ReadsExtent (SameExtent level)

-- the one spelling of a usage by itself: with all that it holds, at each level
abbrev pub IsSpelledUsage : Level → UsageParts → List ℕ → Type 0
IsSpelledUsage level = IsSpelledAs levels.Full class.Usage ReadsUsage SameUsage

-- ---- CRSs of each kind, and base CRSs

-- the one spelling of a base CRS by itself
abbrev pub IsSpelledBase : Level → BaseParts → List ℕ → Type 0
IsSpelledBase level = IsSpelledAs level class.BaseCrs ReadsBase (AreSame parts_of_base level)

-- a geodetic CRS is written as a geographic one exactly where its coordinate system is ellipsoidal
abbrev pub geodetic_class : SystemType → Class
geodetic_class types.Ellipsoidal = class.GeographicCrs
geodetic_class types.Cartesian = class.GeodeticCrs
geodetic_class types.Spherical = class.GeodeticCrs
geodetic_class types.Vertical = class.GeodeticCrs

-- the one spelling of a geodetic CRS, which is geographic where its coordinate system is ellipsoidal
abbrev pub IsSpelledGeodetic : Level → GeodeticParts → List ℕ → Type 0
IsSpelledGeodetic level geodetic =
    IsSpelledAs level (geodetic_class geodetic.system.system_type) ReadsGeodetic
    (AreSame parts_of_geodetic level) geodetic

-- the one spelling of a projected CRS
abbrev pub IsSpelledProjected : Level → ProjectedParts → List ℕ → Type 0
IsSpelledProjected level = IsSpelledAs level class.ProjectedCrs ReadsProjected (AreSame parts_of_projected level)

-- the one spelling of a vertical CRS
abbrev pub IsSpelledVertical : Level → VerticalParts → List ℕ → Type 0
IsSpelledVertical level = IsSpelledAs level class.VerticalCrs ReadsVertical (AreSame parts_of_vertical level)

-- the one spelling of the horizontal part of a compound CRS by itself
abbrev pub IsSpelledHorizontal : Level → Horizontal → List ℕ → Type 0
IsSpelledHorizontal level (horizontal.Geodetic geodetic) = IsSpelledGeodetic level geodetic
IsSpelledHorizontal level (horizontal.Projected projected) = IsSpelledProjected level projected

-- the one spelling of a compound CRS
abbrev pub IsSpelledCompound : Level → CompoundParts → List ℕ → Type 0
IsSpelledCompound level = IsSpelledAs level class.CompoundCrs ReadsCompound (AreSame parts_of_compound level)
