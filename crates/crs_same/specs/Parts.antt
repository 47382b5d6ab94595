-- The parts of two values in order, which of them differ, and the parts of each kind of value.
use Rattle.std.specs.Prelude.{Option, Some, None, ◌≡◌, List, [], ◌∷◌, ◌++◌, ◌⊎◌, ℕ, zero, suc, max, length, ◌==◌, if◌then◌else◌, codes}
use Rattle.crs_value.specs.Values.{UnitParts, IdentParts, AxisParts, SystemParts, EllipsoidParts, MeridianParts, DatumParts, EnsembleParts, MethodParts, ConversionParts, DynamicParts, TailParts}
use Rattle.crs_same.specs.declared.content.Content.{Content}
use Rattle.crs_value.specs.declared.values.level.Level.{Level}
use Rattle.crs_same.specs.declared.step.Step.{Step}
use Rattle.crs_decimal.specs.Numbers.{Value, zero as nought}
use Rattle.crs_shape.specs.declared.unit_kind.UnitKind.{UnitKind}
use Rattle.crs_value.specs.Kept.{kept, kept_one}
use Rattle.crs_same.specs.SameIdents.{SameIdent, SameSet, BothOrNeither}
use Rattle.crs_same.specs.SameParts.{SameValue, SameUnitAsked, SameAxisMeridian, own_or, StandsAt, SameMember, SameLength, SameParameter, SameGeoidModel, SameDeformationModel, SameUsage, usages_of}
use Rattle.crs_shape.specs.Words.{asked_kind, direction_word, system_word}
use Rattle.crs_value.specs.declared.values.frame.Frame.{Frame}
use Rattle.std.specs.Option.{option_map, option_and_then}
use Rattle.crs_value.specs.declared.values.compound.Horizontal.{Horizontal}
use Rattle.crs_value.specs.declared.values.crs.Crs.{Crs}
use Rattle.crs_value.specs.declared.values.crs.Kind.{Kind}
use Rattle.crs_value.specs.CompoundValues.{CompoundParts}
use Rattle.crs_value.specs.CrsValues.{GeodeticParts, BaseParts, ProjectedParts, VerticalParts}
use Rattle.crs_value.specs.ReadsCrs.{kind_by, kind_of}
use Rattle.crs_shape.specs.declared.unit_kind.UnitKind.TheVariants as kinds
use Rattle.crs_same.specs.declared.content.Content.TheVariants as content
use Rattle.crs_same.specs.declared.step.Step.TheVariants as step
use Rattle.crs_value.specs.declared.values.frame.Frame.TheVariants as frame
use Rattle.crs_value.specs.declared.values.compound.Horizontal.TheVariants as horizontal
use Rattle.crs_value.specs.declared.values.crs.Crs.TheVariants as crs
use Rattle.crs_value.specs.declared.values.crs.Kind.TheVariants as kind

-- the value of a part that may be missing
abbrev pub given : {V : Type 0} → (V → Content) → Option V → Content
given what None = content.Nothing
given what (Some value) = what value

-- a unit of length; a missing one is the metre
abbrev pub length_unit : Option UnitParts → Content
length_unit None = content.Metre
length_unit (Some value) = content.Unit kinds.Length value

-- ---- the parts of two values in order, each with its path, what is asked of it and its value in either; what is the first part that differs, and which parts differ

infixl 60 ◌▸◌
infixr 10 ◌⨾◌
-- one step further on a path
abbrev pub ◌▸◌ : List Step → Step → List Step
at ▸ step = at ++ step ∷ []

-- The parts of two values: none; one, with its path, what holds where it is the same in both, and its value in the
-- first and in the second; some and then others; or those within something of which a property holds.
pub data Parts : Type 1 where
  none : Parts
  part : List Step → Type 0 → (first second : Content) → Parts
  ◌⨾◌ : Parts → Parts → Parts
  within : {X : Type 0} → (X → Type 0) → (X → Parts) → Parts

-- all parts are the same
abbrev pub AllSame : Parts → Type 0
AllSame none = Unit {0}
AllSame (part path Same first second) = Same
AllSame (these ⨾ others) = AllSame these × AllSame others
AllSame (within {X} Is parts) = (x : X) × Is x × AllSame (parts x)

-- this is the path of the first part that differs, or all parts are the same and there is none
abbrev pub First : Parts → Option (List Step) → Type 0
First none found = found ≡ None
First (part path Same first second) None = Same
First (part path Same first second) (Some found) = (¬ Same) × (found ≡ path)
First (these ⨾ others) None = First these None × First others None
First (these ⨾ others) (Some found) = First these (Some found) ⊎ (First these None × First others (Some found))
First (within {X} Is parts) found = (x : X) × Is x × First (parts x) found

-- a part that differs: its path, and its value in the first and in the second
pub record DifferenceParts : Type 0 where
  pub path : List Step
  pub first : Content
  pub second : Content

-- what it is where the first and the second are exchanged
abbrev pub exchanged : DifferenceParts → DifferenceParts
exchanged one = record { path = one.path; first = one.second; second = one.first }

-- these are all parts that differ, in order
abbrev pub Differences : Parts → List DifferenceParts → Type 0
Differences none found = found ≡ []
Differences (part path Same first second) [] = Same
Differences (part path Same first second) (one ∷ further) =
    (¬ Same) × (one ≡ record { path = path; first = first; second = second }) × (further ≡ [])
Differences (these ⨾ others) found =
    (front back : List DifferenceParts) × (found ≡ front ++ back) × Differences these front × Differences others back
Differences (within {X} Is parts) found = (x : X) × Is x × Differences (parts x) found

-- the parts of two values at a level, where the path to the two is given
abbrev pub PartsOf : Type 0 → Type 1
PartsOf V = List Step → Level → V → V → Parts

-- two values are the same at a level: all their parts are
unfoldable pub AreSame : {V : Type 0} → PartsOf V → Level → V → V → Type 0
AreSame parts level a b = AllSame (parts [] level a b)

-- ---- single parts of two values, by their values, and the parts of nodes that may be missing

-- two texts
abbrev pub texts : List Step → List ℕ → List ℕ → Parts
texts path a b = part path (a ≡ b) (content.Text a) (content.Text b)

-- two texts of which each may be missing
abbrev pub optional_texts : List Step → Option (List ℕ) → Option (List ℕ) → Parts
optional_texts path a b = part path (a ≡ b) (given content.Text a) (given content.Text b)

-- two things that are written as words
abbrev pub words : {V : Type 0} → List Step → (V → List ℕ) → V → V → Parts
words path word_of a b = part path (a ≡ b) (content.Word (word_of a)) (content.Word (word_of b))

-- two things that are never the same, with their words
abbrev pub unlike : List Step → List ℕ → List ℕ → Parts
unlike path a b = part path ⊥ (content.Word a) (content.Word b)

-- two numbers
abbrev pub numbers : List Step → Value → Value → Parts
numbers path a b = part path (SameValue a b) (content.Number a) (content.Number b)

-- two things of which each may be missing
abbrev pub optional : {V : Type 0} → List Step → (V → V → Type 0) → (V → Content) → (a b : Option V) → Parts
optional path Same what a b = part path (BothOrNeither Same a b) (given what a) (given what b)

-- two numbers of which each may be missing
abbrev pub optional_numbers : List Step → Option Value → Option Value → Parts
optional_numbers path = optional path SameValue content.Number

-- two units of which each may be missing, each where a kind is asked
abbrev pub units : List Step → Level → (asked other : UnitKind) → (a b : Option UnitParts) → Parts
units path level asked other a b =
    part path (BothOrNeither (SameUnitAsked asked other level) a b)
    (given (content.Unit asked) a) (given (content.Unit other) b)

-- two lists that are taken as sets
abbrev pub sets : {V : Type 0} → List Step → (V → V → Type 0) → (List V → List V → Content) → List V → List V → Parts
sets path Same members_of a b = part path (SameSet Same a b) (members_of a b) (members_of b a)

-- the identifiers that the level keeps of two parts
abbrev pub identifiers : List Step → Level → List IdentParts → List IdentParts → Parts
identifiers path level a b = sets path SameIdent content.Identifiers (kept level a) (kept level b)

-- the parts of two nodes of which each may be missing; where only one
-- is there, its name is the first part that is on one side alone
abbrev pub nodes : {V : Type 0} → List Step → (V → List ℕ) → (V → V → Parts) → (a b : Option V) → Parts
nodes at name_of parts None None = none
nodes at name_of parts None (Some b) = part (at ▸ step.Name) ⊥ content.Nothing (content.Text (name_of b))
nodes at name_of parts (Some a) None = part (at ▸ step.Name) ⊥ (content.Text (name_of a)) content.Nothing
nodes at name_of parts (Some a) (Some b) = parts a b

-- ---- the parts of coordinate systems, in order

-- the parts of two axes of two coordinate systems: name, direction, meridian, unit, identifiers
unfoldable pub parts_of_axis : List Step → Level → SystemParts → SystemParts → AxisParts → AxisParts → Parts
parts_of_axis at level a b x y =
    texts (at ▸ step.Name) x.name y.name
    ⨾ words (at ▸ step.Direction) direction_word x.direction y.direction
    ⨾ optional (at ▸ step.Meridian) (SameAxisMeridian level) content.Meridian x.meridian y.meridian
    ⨾ units (at ▸ step.Unit) level (asked_kind a.system_type x.direction)
    (asked_kind b.system_type y.direction) (own_or x.unit a.unit) (own_or y.unit b.unit)
    ⨾ identifiers (at ▸ step.Id) level x.identifiers y.identifiers

-- the parts of the axes that are at this position, of which each may be missing
abbrev pub parts_at : List Step → Level → SystemParts → SystemParts → ℕ → Parts
parts_at at level a b position =
    within (StandsAt position a.axes) (λ x. within (StandsAt position b.axes) (λ y.
    nodes at (λ axis. axis.name) (parts_of_axis at level a b) x y))

-- the parts of the axes at so many positions, from the first
abbrev pub parts_of_axes : List Step → Level → SystemParts → SystemParts → ℕ → Parts
parts_of_axes at level a b zero = none
parts_of_axes at level a b (suc position) =
    parts_of_axes at level a b position ⨾ parts_at (at ▸ step.Axis (suc position)) level a b (suc position)

-- the parts of two coordinate systems: type, dimension, identifiers, axes
unfoldable pub parts_of_system : PartsOf SystemParts
parts_of_system at level a b =
    words (at ▸ step.SystemType) system_word a.system_type b.system_type
    ⨾ numbers (at ▸ step.Dimension) a.dimension b.dimension
    ⨾ identifiers (at ▸ step.Id) level a.identifiers b.identifiers
    ⨾ parts_of_axes at level a b (max (length a.axes) (length b.axes))

-- ---- the parts of ellipsoids, prime meridians, reference frames and ensembles, in order

-- the parts of two ellipsoids: name, semi-major axis, inverse flattening, unit, identifiers
abbrev pub parts_of_ellipsoid : PartsOf EllipsoidParts
parts_of_ellipsoid at level a b =
    texts (at ▸ step.Name) a.name b.name
    ⨾ numbers (at ▸ step.SemiMajor) a.semi_major_axis b.semi_major_axis
    ⨾ numbers (at ▸ step.Flattening) a.inverse_flattening b.inverse_flattening
    ⨾ part (at ▸ step.Unit) (SameLength level a.unit b.unit) (length_unit a.unit) (length_unit b.unit)
    ⨾ identifiers (at ▸ step.Id) level a.identifiers b.identifiers

-- the parts of two ellipsoids that may be missing
abbrev pub parts_of_ellipsoids : PartsOf (Option EllipsoidParts)
parts_of_ellipsoids at level = nodes at (λ ellipsoid. ellipsoid.name) (parts_of_ellipsoid at level)

-- ---- prime meridians

-- the unit of a written prime meridian; at longitude 0 it has none
abbrev pub unit_of : MeridianParts → Option UnitParts
unit_of meridian = if meridian.longitude.digits == 0 then None else meridian.unit

-- the parts of two written prime meridians: name, longitude, unit, identifiers
abbrev pub parts_of_given : PartsOf MeridianParts
parts_of_given at level a b =
    texts (at ▸ step.Name) a.name b.name
    ⨾ numbers (at ▸ step.Longitude) a.longitude b.longitude
    ⨾ units (at ▸ step.Unit) level kinds.Angle kinds.Angle (unit_of a) (unit_of b)
    ⨾ identifiers (at ▸ step.Id) level a.identifiers b.identifiers

-- a prime meridian; a missing one is Greenwich
abbrev pub or_greenwich : Option MeridianParts → MeridianParts
or_greenwich None = record { name = codes "Greenwich"; longitude = nought; unit = None; identifiers = [] }
or_greenwich (Some meridian) = meridian

-- the parts of two prime meridians, a missing one being Greenwich
unfoldable pub parts_of_meridian : PartsOf (Option MeridianParts)
parts_of_meridian at level a b = parts_of_given at level (or_greenwich a) (or_greenwich b)

-- ---- frames

-- the parts of two reference frames: name, ellipsoid, anchor, the anchor's epoch, identifiers
abbrev pub parts_of_datum : PartsOf DatumParts
parts_of_datum at level a b =
    texts (at ▸ step.Name) a.name b.name
    ⨾ parts_of_ellipsoids (at ▸ step.Ellipsoid) level a.ellipsoid b.ellipsoid
    ⨾ optional_texts (at ▸ step.Anchor) a.anchor b.anchor
    ⨾ optional_numbers (at ▸ step.AnchorEpoch) a.anchor_epoch b.anchor_epoch
    ⨾ identifiers (at ▸ step.Id) level a.identifiers b.identifiers

-- the parts of two datum ensembles: name, members, ellipsoid, accuracy, identifiers
abbrev pub parts_of_ensemble : PartsOf EnsembleParts
parts_of_ensemble at level a b =
    texts (at ▸ step.Name) a.name b.name
    ⨾ sets (at ▸ step.Members) (SameMember level) content.Members a.members b.members
    ⨾ parts_of_ellipsoids (at ▸ step.Ellipsoid) level a.ellipsoid b.ellipsoid
    ⨾ numbers (at ▸ step.Accuracy) a.accuracy b.accuracy
    ⨾ identifiers (at ▸ step.Id) level a.identifiers b.identifiers

-- the keyword of a reference frame: one without an ellipsoid is vertical
abbrev pub datum_word : Option EllipsoidParts → List ℕ
datum_word None = codes "VDATUM"
datum_word (Some ellipsoid) = codes "DATUM"

-- the parts of two frames; a reference frame and an ensemble differ in kind,
-- and what both have is compared: name, ellipsoid, identifiers
unfoldable pub parts_of_frame : PartsOf Frame
parts_of_frame at level (frame.Datum a) (frame.Datum b) = parts_of_datum at level a b
parts_of_frame at level (frame.Ensemble a) (frame.Ensemble b) = parts_of_ensemble at level a b
parts_of_frame at level (frame.Datum a) (frame.Ensemble b) =
    unlike (at ▸ step.Kind) (datum_word a.ellipsoid) (codes "ENSEMBLE")
    ⨾ texts (at ▸ step.Name) a.name b.name
    ⨾ parts_of_ellipsoids (at ▸ step.Ellipsoid) level a.ellipsoid b.ellipsoid
    ⨾ identifiers (at ▸ step.Id) level a.identifiers b.identifiers
parts_of_frame at level (frame.Ensemble a) (frame.Datum b) =
    unlike (at ▸ step.Kind) (codes "ENSEMBLE") (datum_word b.ellipsoid)
    ⨾ texts (at ▸ step.Name) a.name b.name
    ⨾ parts_of_ellipsoids (at ▸ step.Ellipsoid) level a.ellipsoid b.ellipsoid
    ⨾ identifiers (at ▸ step.Id) level a.identifiers b.identifiers

-- ---- the parts of coordinate reference systems, in order

-- the parts of two methods: name, identifiers
unfoldable pub parts_of_method : PartsOf MethodParts
parts_of_method at level a b =
    texts (at ▸ step.Name) a.name b.name
    ⨾ identifiers (at ▸ step.Id) level a.identifiers b.identifiers

-- the parts of two conversions: name, method, parameters, identifiers
unfoldable pub parts_of_conversion : PartsOf ConversionParts
parts_of_conversion at level a b =
    texts (at ▸ step.Name) a.name b.name
    ⨾ parts_of_method (at ▸ step.Method) level a.method b.method
    ⨾ sets (at ▸ step.Parameters) (SameParameter level) content.Parameters a.parameters b.parameters
    ⨾ identifiers (at ▸ step.Id) level a.identifiers b.identifiers

-- the parts of two dynamic parts, of which each may be missing: epoch, model
unfoldable pub parts_of_dynamic : PartsOf (Option DynamicParts)
parts_of_dynamic at level a b =
    optional_numbers (at ▸ step.Epoch) (option_map (λ d. d.epoch) a) (option_map (λ d. d.epoch) b)
    ⨾ optional (at ▸ step.Model) (SameDeformationModel level) content.Model
    (option_and_then (λ d. d.model) a) (option_and_then (λ d. d.model) b)

-- the parts of the ends of two CRSs: usages, identifiers, remark
unfoldable pub parts_of_tail : PartsOf TailParts
parts_of_tail at level a b =
    sets (at ▸ step.Usage) SameUsage content.Usages (kept level (usages_of a)) (kept level (usages_of b))
    ⨾ identifiers (at ▸ step.Id) level a.identifiers b.identifiers
    ⨾ optional_texts (at ▸ step.Remark) (kept_one level a.remark) (kept_one level b.remark)

-- the keyword of a CRS of this kind
abbrev pub kind_word : Kind → List ℕ
kind_word kind.Geodetic = codes "GEODCRS"
kind_word kind.Geographic = codes "GEOGCRS"
kind_word kind.Projected = codes "PROJCRS"
kind_word kind.Vertical = codes "VERTCRS"
kind_word kind.Compound = codes "COMPOUNDCRS"

-- the parts of two geodetic CRSs: kind, which is geodetic or geographic, name,
-- dynamic part, frame, prime meridian, coordinate system, end
unfoldable pub parts_of_geodetic : PartsOf GeodeticParts
parts_of_geodetic at level a b =
    words (at ▸ step.Kind) kind_word (kind_by a.system.system_type) (kind_by b.system.system_type)
    ⨾ texts (at ▸ step.Name) a.name b.name
    ⨾ parts_of_dynamic (at ▸ step.Dynamic) level a.dynamic b.dynamic
    ⨾ parts_of_frame (at ▸ step.Datum) level a.frame b.frame
    ⨾ parts_of_meridian (at ▸ step.Meridian) level a.meridian b.meridian
    ⨾ parts_of_system (at ▸ step.System) level a.system b.system
    ⨾ parts_of_tail at level a.tail b.tail

-- the parts of two base CRSs: name, dynamic part, frame, prime meridian, unit, identifiers
unfoldable pub parts_of_base : PartsOf BaseParts
parts_of_base at level a b =
    texts (at ▸ step.Name) a.name b.name
    ⨾ parts_of_dynamic (at ▸ step.Dynamic) level a.dynamic b.dynamic
    ⨾ parts_of_frame (at ▸ step.Datum) level a.frame b.frame
    ⨾ parts_of_meridian (at ▸ step.Meridian) level a.meridian b.meridian
    ⨾ units (at ▸ step.Unit) level kinds.Angle kinds.Angle a.unit b.unit
    ⨾ identifiers (at ▸ step.Id) level a.identifiers b.identifiers

-- the parts of two projected CRSs: name, base CRS, conversion, coordinate system, end
unfoldable pub parts_of_projected : PartsOf ProjectedParts
parts_of_projected at level a b =
    texts (at ▸ step.Name) a.name b.name
    ⨾ parts_of_base (at ▸ step.Base) level a.base b.base
    ⨾ parts_of_conversion (at ▸ step.Conversion) level a.conversion b.conversion
    ⨾ parts_of_system (at ▸ step.System) level a.system b.system
    ⨾ parts_of_tail at level a.tail b.tail

-- the parts of two vertical CRSs: name, dynamic part, frame, coordinate system, geoid models, end
unfoldable pub parts_of_vertical : PartsOf VerticalParts
parts_of_vertical at level a b =
    texts (at ▸ step.Name) a.name b.name
    ⨾ parts_of_dynamic (at ▸ step.Dynamic) level a.dynamic b.dynamic
    ⨾ parts_of_frame (at ▸ step.Datum) level a.frame b.frame
    ⨾ parts_of_system (at ▸ step.System) level a.system b.system
    ⨾ sets (at ▸ step.Geoid) (SameGeoidModel level) content.GeoidModels a.geoid_models b.geoid_models
    ⨾ parts_of_tail at level a.tail b.tail

-- the keyword of the horizontal part of a compound CRS
abbrev pub horizontal_word : Horizontal → List ℕ
horizontal_word (horizontal.Geodetic geodetic) = kind_word (kind_by geodetic.system.system_type)
horizontal_word (horizontal.Projected projected) = kind_word kind.Projected

-- the parts of the horizontal parts of two compound CRSs; a geodetic and a projected one differ in kind
unfoldable pub parts_of_horizontal : PartsOf Horizontal
parts_of_horizontal at level (horizontal.Geodetic a) (horizontal.Geodetic b) = parts_of_geodetic at level a b
parts_of_horizontal at level (horizontal.Projected a) (horizontal.Projected b) = parts_of_projected at level a b
parts_of_horizontal at level a b = unlike (at ▸ step.Kind) (horizontal_word a) (horizontal_word b)

-- the parts of two compound CRSs: name, horizontal part, vertical part, end
unfoldable pub parts_of_compound : PartsOf CompoundParts
parts_of_compound at level a b =
    texts (at ▸ step.Name) a.name b.name
    ⨾ parts_of_horizontal (at ▸ step.Horizontal) level a.horizontal b.horizontal
    ⨾ parts_of_vertical (at ▸ step.Vertical) level a.vertical b.vertical
    ⨾ parts_of_tail at level a.tail b.tail

-- the parts of two CRSs; where they aren't both geodetic, projected, vertical or compound, they differ in kind
abbrev pub parts_of_crs : Level → Crs → Crs → Parts
parts_of_crs level (crs.Geodetic a) (crs.Geodetic b) = parts_of_geodetic [] level a b
parts_of_crs level (crs.Projected a) (crs.Projected b) = parts_of_projected [] level a b
parts_of_crs level (crs.Vertical a) (crs.Vertical b) = parts_of_vertical [] level a b
parts_of_crs level (crs.Compound a) (crs.Compound b) = parts_of_compound [] level a b
parts_of_crs level a b = unlike ([] ▸ step.Kind) (kind_word (kind_of a)) (kind_word (kind_of b))

-- the path to the first part in which two CRSs differ at a level; None where they are the same
abbrev pub FirstInCrs : Level → Crs → Crs → Option (List Step) → Type 0
FirstInCrs level a b = First (parts_of_crs level a b)

-- all parts in which two CRSs differ at a level, in order
abbrev pub DifferencesInCrs : Level → Crs → Crs → List DifferenceParts → Type 0
DifferencesInCrs level a b = Differences (parts_of_crs level a b)
