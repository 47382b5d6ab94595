-- A bridge: two values agree, field by field, exactly where all their parts are the same.
use Rattle.std.specs.Prelude.{◌≡◌, ◌↔◌, ℕ, ◌≤◌, length, Option, ◌⊎◌}
use Rattle.crs_shape.specs.declared.unit_kind.UnitKind.{UnitKind}
use Rattle.crs_shape.specs.declared.unit_kind.UnitKind.TheVariants as kinds
use Rattle.crs_shape.specs.Words.{asked_kind}
use Rattle.crs_value.specs.declared.values.compound.Horizontal.{Horizontal}
use Rattle.crs_value.specs.declared.values.compound.Horizontal.TheVariants as horizontal
use Rattle.crs_value.specs.declared.values.crs.Crs.{Crs}
use Rattle.crs_value.specs.declared.values.crs.Crs.TheVariants as crs
use Rattle.crs_value.specs.declared.values.frame.Frame.{Frame}
use Rattle.crs_value.specs.declared.values.frame.Frame.TheVariants as frame
use Rattle.crs_value.specs.declared.values.level.Level.{Level}
use Rattle.crs_value.specs.CompoundValues.{CompoundParts}
use Rattle.crs_value.specs.Values.{MethodParts, ConversionParts, DynamicParts, EllipsoidParts, MeridianParts, DatumParts, EnsembleParts, AxisParts, SystemParts, TailParts, UnitParts}
use Rattle.crs_value.specs.CrsValues.{GeodeticParts, BaseParts, ProjectedParts, VerticalParts}
use Rattle.crs_value.specs.ReadsCrs.{kind_by, kind_of}
use Rattle.crs_value.specs.SoundCompound.{IsCompound}
use Rattle.crs_value.specs.SoundCrs.{IsCrs}
use Rattle.crs_value.specs.SoundSingle.{IsGeodetic, IsProjected, IsVertical}
use Rattle.crs_value.specs.Sound.{IsSystem}
use Rattle.crs_same.specs.Parts.{AreSame, parts_of_method, parts_of_conversion, parts_of_tail, parts_of_geodetic, parts_of_base, parts_of_projected, parts_of_vertical, parts_of_horizontal, parts_of_compound}
use Rattle.crs_same.specs.Parts.{parts_of_ellipsoid, parts_of_given, or_greenwich, parts_of_meridian, parts_of_datum, parts_of_ensemble, parts_of_frame, parts_of_system}
use Rattle.crs_same.specs.SameParts.{SameParameter, SameGeoidModel, SameDeformationModel, SameMember, SameAxisMeridian, HasAt, own_or, SameValue, SameUnit, SameLength, SameUsage, usages_of}
use Rattle.crs_same.specs.SameCrs.{SameCrs, SameDynamic, IsHorizontalPart}
use Rattle.crs_same.specs.SameIdents.{SameIdents, SameSet, BothOrNeither}
use Rattle.crs_decimal.specs.Numbers.{SameNumber, whole_number, Value, exact}
use Rattle.crs_value.specs.Kept.{kept, kept_one}

-- the value is zero
abbrev pub IsZero : Value → Type 0
IsZero value = SameNumber (exact value) (whole_number 0)

-- the usages that the level keeps of the ends of two CRSs are the same set
abbrev pub SameUsages : Level → TailParts → TailParts → Type 0
SameUsages level a b = SameSet SameUsage (kept level (usages_of a)) (kept level (usages_of b))

-- the remarks that the level keeps of two ends are equal, or both are missing
abbrev pub SameRemark : Level → TailParts → TailParts → Type 0
SameRemark level a b = kept_one level a.remark ≡ kept_one level b.remark

-- ---- conversions

-- two methods of conversions agree: name and identifiers
pub record AgreeMethod (level : Level) (a b : MethodParts) : Type 0 where
  pub name : a.name ≡ b.name
  pub identifiers : SameIdents level a.identifiers b.identifiers

-- two conversions agree: name, method, the set of parameters, and identifiers
pub record AgreeConversion (level : Level) (a b : ConversionParts) : Type 0 where
  pub name : a.name ≡ b.name
  pub method : AgreeMethod level a.method b.method
  pub parameters : SameSet (SameParameter level) a.parameters b.parameters
  pub identifiers : SameIdents level a.identifiers b.identifiers

-- ---- dynamic parts

-- two dynamic parts agree: epoch and model
pub record AgreeDynamic (level : Level) (a b : DynamicParts) : Type 0 where
  pub epoch : SameValue a.epoch b.epoch
  pub model : BothOrNeither (SameDeformationModel level) a.model b.model

-- ---- frames

-- two ellipsoids agree: all their parts do, a missing unit being the metre
pub record AgreeEllipsoid (level : Level) (a b : EllipsoidParts) : Type 0 where
  pub name : a.name ≡ b.name
  pub semi_major_axis : SameValue a.semi_major_axis b.semi_major_axis
  pub inverse_flattening : SameValue a.inverse_flattening b.inverse_flattening
  pub unit : SameLength level a.unit b.unit
  pub identifiers : SameIdents level a.identifiers b.identifiers

-- two written prime meridians agree: at longitude 0 the unit
-- doesn't count; at another a missing one differs from each that is there
pub record AgreeGiven (level : Level) (a b : MeridianParts) : Type 0 where
  pub name : a.name ≡ b.name
  pub longitude : SameValue a.longitude b.longitude
  pub unit : IsZero a.longitude ⊎ BothOrNeither (SameUnit kinds.Angle level) a.unit b.unit
  pub identifiers : SameIdents level a.identifiers b.identifiers

-- two prime meridians agree, a missing one being Greenwich
abbrev pub AgreeMeridian : Level → Option MeridianParts → Option MeridianParts → Type 0
AgreeMeridian level a b = AgreeGiven level (or_greenwich a) (or_greenwich b)

-- two reference frames agree: name, ellipsoid, anchor, the anchor's epoch and identifiers
pub record AgreeDatum (level : Level) (a b : DatumParts) : Type 0 where
  pub name : a.name ≡ b.name
  pub ellipsoid : BothOrNeither (AgreeEllipsoid level) a.ellipsoid b.ellipsoid
  pub anchor : a.anchor ≡ b.anchor
  pub anchor_epoch : BothOrNeither SameValue a.anchor_epoch b.anchor_epoch
  pub identifiers : SameIdents level a.identifiers b.identifiers

-- two datum ensembles agree: all their parts do, the members as a set
pub record AgreeEnsemble (level : Level) (a b : EnsembleParts) : Type 0 where
  pub name : a.name ≡ b.name
  pub members : SameSet (SameMember level) a.members b.members
  pub ellipsoid : BothOrNeither (AgreeEllipsoid level) a.ellipsoid b.ellipsoid
  pub accuracy : SameValue a.accuracy b.accuracy
  pub identifiers : SameIdents level a.identifiers b.identifiers

-- a reference frame and an ensemble never agree
abbrev pub AgreeFrame : Level → Frame → Frame → Type 0
AgreeFrame level (frame.Datum a) (frame.Datum b) = AgreeDatum level a b
AgreeFrame level (frame.Ensemble a) (frame.Ensemble b) = AgreeEnsemble level a b
AgreeFrame level a b = ⊥

-- ---- coordinate systems

-- two axes with these units agree, where a unit of this kind is asked
pub record AgreeAxisIn (asked : UnitKind) (level : Level) (a b : AxisParts)
    (first second : Option UnitParts) : Type 0 where
  pub name : a.name ≡ b.name
  pub direction : a.direction ≡ b.direction
  pub meridian : BothOrNeither (SameAxisMeridian level) a.meridian b.meridian
  pub unit : BothOrNeither (SameUnit asked level) first second
  pub identifiers : SameIdents level a.identifiers b.identifiers

-- two axes of two coordinate systems agree, each with its own unit or the one that its system shares
unfoldable pub AgreeAxis : Level → SystemParts → SystemParts → AxisParts → AxisParts → Type 0
AgreeAxis level a b x y =
    AgreeAxisIn (asked_kind a.system_type x.direction) level x y (own_or x.unit a.unit)
    (own_or y.unit b.unit)

-- the axes at this position agree
abbrev pub AgreeAt : Level → SystemParts → SystemParts → ℕ → Type 0
AgreeAt level a b position = HasAt position (λ x. HasAt position (λ y. AgreeAxis level a b x y) 1 b.axes) 1 a.axes

-- the axes at each position agree
abbrev pub AgreeAxes : Level → SystemParts → SystemParts → Type 0
AgreeAxes level a b = (position : ℕ) → 1 ≤ position → position ≤ length a.axes → AgreeAt level a b position

-- two coordinate systems agree: type, dimension, identifiers, and at each position the axis
pub record AgreeSystem (level : Level) (a b : SystemParts) : Type 0 where
  pub system_type : a.system_type ≡ b.system_type
  pub dimension : SameValue a.dimension b.dimension
  pub identifiers : SameIdents level a.identifiers b.identifiers
  pub axes : AgreeAxes level a b

-- ---- CRSs

-- the ends of two CRSs agree: usages, identifiers and remark
pub record AgreeTail (level : Level) (a b : TailParts) : Type 0 where
  pub usages : SameUsages level a b
  pub identifiers : SameIdents level a.identifiers b.identifiers
  pub remark : SameRemark level a b

-- two geodetic CRSs agree: both are geographic or neither is, and all their parts agree
pub record AgreeGeodetic (level : Level) (a b : GeodeticParts) : Type 0 where
  pub kind : kind_by a.system.system_type ≡ kind_by b.system.system_type
  pub name : a.name ≡ b.name
  pub dynamic : BothOrNeither (AgreeDynamic level) a.dynamic b.dynamic
  pub frame : AgreeFrame level a.frame b.frame
  pub meridian : AgreeMeridian level a.meridian b.meridian
  pub system : AgreeSystem level a.system b.system
  pub tail : AgreeTail level a.tail b.tail

-- two base CRSs agree: all their parts do, and a missing unit differs from each that is there
pub record AgreeBase (level : Level) (a b : BaseParts) : Type 0 where
  pub name : a.name ≡ b.name
  pub dynamic : BothOrNeither (AgreeDynamic level) a.dynamic b.dynamic
  pub frame : AgreeFrame level a.frame b.frame
  pub meridian : AgreeMeridian level a.meridian b.meridian
  pub unit : BothOrNeither (SameUnit kinds.Angle level) a.unit b.unit
  pub identifiers : SameIdents level a.identifiers b.identifiers

-- two projected CRSs agree: all their parts do
pub record AgreeProjected (level : Level) (a b : ProjectedParts) : Type 0 where
  pub name : a.name ≡ b.name
  pub base : AgreeBase level a.base b.base
  pub conversion : AgreeConversion level a.conversion b.conversion
  pub system : AgreeSystem level a.system b.system
  pub tail : AgreeTail level a.tail b.tail

-- two vertical CRSs agree: all their parts do, the geoid models as a set
pub record AgreeVertical (level : Level) (a b : VerticalParts) : Type 0 where
  pub name : a.name ≡ b.name
  pub dynamic : BothOrNeither (AgreeDynamic level) a.dynamic b.dynamic
  pub frame : AgreeFrame level a.frame b.frame
  pub system : AgreeSystem level a.system b.system
  pub geoid_models : SameSet (SameGeoidModel level) a.geoid_models b.geoid_models
  pub tail : AgreeTail level a.tail b.tail

-- the horizontal parts of two compound CRSs agree: both are geodetic or both projected, and agree so
abbrev pub AgreeHorizontal : Level → Horizontal → Horizontal → Type 0
AgreeHorizontal level (horizontal.Geodetic a) (horizontal.Geodetic b) = AgreeGeodetic level a b
AgreeHorizontal level (horizontal.Projected a) (horizontal.Projected b) = AgreeProjected level a b
AgreeHorizontal level a b = ⊥

-- two compound CRSs agree: all their parts do
pub record AgreeCompound (level : Level) (a b : CompoundParts) : Type 0 where
  pub name : a.name ≡ b.name
  pub horizontal : AgreeHorizontal level a.horizontal b.horizontal
  pub vertical : AgreeVertical level a.vertical b.vertical
  pub tail : AgreeTail level a.tail b.tail

-- two CRSs have parts that agree: both are geodetic, projected, vertical or compound, and agree as such
abbrev pub AgreeParts : Level → Crs → Crs → Type 0
AgreeParts level (crs.Geodetic a) (crs.Geodetic b) = AgreeGeodetic level a b
AgreeParts level (crs.Projected a) (crs.Projected b) = AgreeProjected level a b
AgreeParts level (crs.Vertical a) (crs.Vertical b) = AgreeVertical level a b
AgreeParts level (crs.Compound a) (crs.Compound b) = AgreeCompound level a b
AgreeParts level a b = ⊥

-- two CRSs agree: they are of one kind, of five, and their parts agree
pub record AgreeCrs (level : Level) (a b : Crs) : Type 0 where
  pub kind : kind_of a ≡ kind_of b
  pub parts : AgreeParts level a b

-- ---- where all parts are the same

-- all parts of two values of which `IsValue` holds are the same exactly where the values agree
abbrev pub AgreesWith : {V : Type 0} → (V → Type 0) → (V → V → Type 0) → (V → V → Type 0) → Type 0
AgreesWith IsValue Same Agree = (a b : _) → IsValue a → IsValue b → Same a b ↔ Agree a b

-- this holds for each kind of value
pub record AgreeWhereSame (level : Level) : Type 0 where
  pub method : (a b : MethodParts) → AreSame parts_of_method level a b ↔ AgreeMethod level a b
  pub conversion : (a b : ConversionParts) → AreSame parts_of_conversion level a b ↔ AgreeConversion level a b
  pub dynamic : (a b : DynamicParts) → SameDynamic level a b ↔ AgreeDynamic level a b
  pub ellipsoid : (a b : EllipsoidParts) → AreSame parts_of_ellipsoid level a b ↔ AgreeEllipsoid level a b
  pub given : (a b : MeridianParts) → AreSame parts_of_given level a b ↔ AgreeGiven level a b
  pub meridian : (a b : Option MeridianParts) → AreSame parts_of_meridian level a b ↔ AgreeMeridian level a b
  pub datum : (a b : DatumParts) → AreSame parts_of_datum level a b ↔ AgreeDatum level a b
  pub ensemble : (a b : EnsembleParts) → AreSame parts_of_ensemble level a b ↔ AgreeEnsemble level a b
  pub frame : (a b : Frame) → AreSame parts_of_frame level a b ↔ AgreeFrame level a b
  pub tail : (a b : TailParts) → AreSame parts_of_tail level a b ↔ AgreeTail level a b
  pub base : (a b : BaseParts) → AreSame parts_of_base level a b ↔ AgreeBase level a b
  pub system : AgreesWith IsSystem (AreSame parts_of_system level) (AgreeSystem level)
  pub geodetic : AgreesWith IsGeodetic (AreSame parts_of_geodetic level) (AgreeGeodetic level)
  pub projected : AgreesWith IsProjected (AreSame parts_of_projected level) (AgreeProjected level)
  pub vertical : AgreesWith IsVertical (AreSame parts_of_vertical level) (AgreeVertical level)
  pub horizontal : AgreesWith IsHorizontalPart (AreSame parts_of_horizontal level) (AgreeHorizontal level)
  pub compound : AgreesWith IsCompound (AreSame parts_of_compound level) (AgreeCompound level)
  pub crs : AgreesWith IsCrs (SameCrs level) (AgreeCrs level)
