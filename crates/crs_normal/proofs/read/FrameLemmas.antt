-- Ellipsoids, prime meridians, reference frames, ensembles and coordinate systems in their one form are read back from their items.
use Rattle.std.proofs.Common.{◌≡◌, ℕ, ◌+◌, codes, IfSome, Option, Some, None, List, [], ◌∷◌, length, refl, if◌then◌else◌, Bool, true, false, map, ◌++◌, ◌≢◌, suc, zero, ◌≤◌, arith, inl, inr}
use Rattle.std.specs.Option.{option_map}
use Rattle.crs_text.specs.inner.Prelude.{Item, at_place, item_text}
use Rattle.crs_shape.specs.declared.class.Class.{Class}
use Rattle.crs_shape.specs.inner.Prelude.{class_named, asked_kind, direction_word, system_word}
use Rattle.crs_value.specs.declared.values.level.Level.{Level}
use Rattle.crs_value.specs.inner.Prelude.{ReadsDatum, ReadsEllipsoid, ReadsEnsemble, ReadsIds, ReadsMember, ReadsMeridian, ReadsUnit, IsIdent, IsUnit, IsUnitOf, IsDatum, IsEllipsoid, IsEnsemble, IsMember, IsMeridian, DatumParts, EllipsoidParts, EnsembleParts, MemberParts, MeridianParts, UnitParts, ReadsAxis, ReadsAxisMeridian, ReadsHead, IsAxis, IsAxisMeridian, IsAxisUnit, IsSystem, AxisMeridianParts, AxisParts, SystemParts}
use Rattle.crs_value.specs.Sound.{Each}
use Rattle.crs_value.specs.Values.{IdentParts}
use Rattle.crs_normal.specs.inner.SpelledFrames.{greenwich, is_zero, item_datum, item_ellipsoid, item_ensemble, item_member, item_meridian, norm_datum, norm_ellipsoid, norm_ensemble, norm_given, norm_member, norm_meridian, set_members}
use Rattle.crs_normal.specs.inner.Prelude.{number_node, text_node, item_ident, item_unit, norm_length, norm_unit, norm_units, set_idents, whole_value, norm_axis_alone}
use Rattle.crs_normal.specs.inner.LowerLaws.{LowerLaws}
use Rattle.crs_normal.proofs.members.MemberLemmas.{length-kept, named-kept, named-read, NamesId, identifiers-back, identifiers-of, number-read, unit-in, unit-kept, unit-read}
use Rattle.crs_normal.proofs.texts.SegmentLemmas.{MayIn, ReadsBack, Seen, Segment, a-number, a-text, all-of, each-field, if-any, items_of, may-be, one-field, one-item, opt-field, seen, text-field, set-kept, some-imp, some-mapped, IsIn, a-word}
use Rattle.crs_normal.proofs.read.ViewLemmas.{keyword-names}
use Rattle.crs_normal.proofs.same.UnitLemmas.{suits-kind}
use Rattle.crs_normal.proofs.made.IdentLemmas.{idents-sound, IsKindIn}
use Rattle.crs_decimal.specs.inner.Prelude.{IsNormal}
use Rattle.crs_shape.specs.declared.direction.Direction.{Direction}
use Rattle.crs_shape.specs.declared.system_type.SystemType.{SystemType}
use Rattle.crs_shape.specs.declared.unit_kind.UnitKind.{UnitKind}
use Rattle.crs_same.specs.inner.Prelude.{own_or, kind_as}
use Rattle.crs_normal.specs.inner.SpelledCrs.{axes_from, axis_at, item_axis, item_axis_meridian, item_head, norm_axis, norm_axis_meridian, norm_axis_meridians, norm_system, with_axis}
use Rattle.crs_normal.proofs.made.AxisLemmas.{whole-normal, asked-in}
use Rattle.crs_normal.proofs.made.SystemLemmas.{at-all}
use Rattle.crs_shape.specs.declared.class.Class.TheVariants as class
use Rattle.crs_shape.specs.declared.unit_kind.UnitKind.TheVariants as kinds

-- ---- identifiers

abbrev pub identifiers : {c : Class} → NamesId c → Level → List IdentParts → Segment c
identifiers e level xs = identifiers-of e (set_idents level xs)

pub identifiers-field : {c : Class} {ss : List (Segment c)} {item : Item} → Seen c ss item → (level : Level)
    (xs : List IdentParts) → items_of class.Identifier ss ≡ map item_ident (set_idents level xs) ++ [] →
    Each IsIdent xs → ReadsIds c item (set_idents level xs)
identifiers-field look level xs same s = identifiers-back look (set_idents level xs) same (idents-sound level xs s)

-- ---- units

pub angle-kept : (level : Level) (u : UnitParts) → IsUnitOf kinds.Angle u →
    IsUnit (norm_unit level kinds.Angle u) × ((norm_unit level kinds.Angle u).kind ≡ kinds.Angle)
angle-kept level u s = (unit-kept level kinds.Angle u s.0, suits-kind kinds.Angle u.kind s.1)

abbrev pub IsAngle : UnitParts → Type 0
IsAngle u = IsUnit u × (u.kind ≡ kinds.Angle)

pub angles-kept : (level : Level) (o : Option UnitParts) → IfSome o (IsUnitOf kinds.Angle) →
    IfSome (norm_units level kinds.Angle o) IsAngle
angles-kept level None s = tt
angles-kept level (Some u) s = angle-kept level u s

-- ---- ellipsoids

pub ellipsoid-read : LowerLaws → (level : Level) (e : EllipsoidParts) → IsEllipsoid e →
    ReadsBack item_ellipsoid (ReadsEllipsoid class.Ellipsoid) (norm_ellipsoid level e)
ellipsoid-read laws level e s place =
    let unit = length-kept level e.unit s.unit in
    let look = seen class.Ellipsoid (a-text e.name ∷ a-number e.semi_major_axis ∷ a-number e.inverse_flattening ∷
    one-item class.LengthUnit (item_unit (norm_length level e.unit)) (unit-in class.Ellipsoid class.LengthUnit
    kinds.Length (keyword-names _ _) (norm_length level e.unit) unit.1) ∷
    identifiers (keyword-names _ _) level e.identifiers ∷ [])
    (at_place place (item_ellipsoid (norm_ellipsoid level e))) (place + 9) refl in record {
      name = refl;
      semi_major_axis = number-read laws e.semi_major_axis s.semi_major_axis 0;
      inverse_flattening = number-read laws e.inverse_flattening s.inverse_flattening 0;
      unit = opt-field look class.LengthUnit item_unit _ _ refl
          (unit-read laws class.LengthUnit (keyword-names _ _) (norm_length level e.unit) unit.0);
      identifiers = identifiers-field look level e.identifiers refl s.identifiers;
    }

-- ---- prime meridians

abbrev pub angles-in : (c : Class) → class_named c (codes "ANGLEUNIT") ≡ Some class.AngleUnit → (o : Option UnitParts) →
    IfSome o IsAngle → MayIn c class.AngleUnit item_unit o
angles-in c e o s =
    some-imp _ _ (λ u q. unit-in c class.AngleUnit kinds.Angle e u q.1) o s

pub angles-back : LowerLaws → (o : Option UnitParts) → IfSome o IsAngle →
    IfSome o (ReadsBack item_unit (ReadsUnit class.AngleUnit))
angles-back laws o s =
    some-imp _ _ (λ u q. unit-read laws class.AngleUnit (keyword-names _ _) u q.0) o s

unless-kept : (b : Bool) (o : Option UnitParts) → IfSome o IsAngle → IfSome (if b then None else o) IsAngle
unless-kept true o s = tt
unless-kept false o s = s

pub given-read : LowerLaws → (level : Level) (m : MeridianParts) → IsMeridian m →
    ReadsBack item_meridian (ReadsMeridian class.PrimeMeridian) (norm_given level m)
given-read laws level m s place =
    let unit : Option UnitParts = if is_zero m.longitude then None else norm_units level kinds.Angle m.unit in
    let angle : IfSome unit IsAngle =
    unless-kept (is_zero m.longitude) (norm_units level kinds.Angle m.unit) (angles-kept level m.unit s.unit) in
    let look = seen class.PrimeMeridian (a-text m.name ∷ a-number m.longitude ∷
    if-any class.AngleUnit item_unit unit (angles-in class.PrimeMeridian (keyword-names _ _) _ angle) ∷
    identifiers (keyword-names _ _) level m.identifiers ∷ [])
    (at_place place (item_meridian (norm_given level m))) (place + 6) refl in record {
      name = refl;
      longitude = number-read laws m.longitude s.longitude 0;
      unit = opt-field look class.AngleUnit item_unit _ _ refl (angles-back laws unit angle);
      identifiers = identifiers-field look level m.identifiers refl s.identifiers;
    }

pub greenwich-read : LowerLaws → ReadsBack item_meridian (ReadsMeridian class.PrimeMeridian) greenwich
greenwich-read laws place = record {
  name = refl;
  longitude = number-read laws (whole_value 0) refl 0;
  unit = tt;
  identifiers = tt;
}

-- Greenwich is written where none is given
pub meridian-read : LowerLaws → (level : Level) (o : Option MeridianParts) → IfSome o IsMeridian →
    IfSome (norm_meridian level o) (ReadsBack item_meridian (ReadsMeridian class.PrimeMeridian))
meridian-read laws level None s = greenwich-read laws
meridian-read laws level (Some m) s = given-read laws level m s

-- ---- reference frames and ensembles

pub ellipsoids-back : LowerLaws → (level : Level) (o : Option EllipsoidParts) → IfSome o IsEllipsoid →
    IfSome (option_map (norm_ellipsoid level) o) (ReadsBack item_ellipsoid (ReadsEllipsoid class.Ellipsoid))
ellipsoids-back laws level o s =
    some-mapped _ _ _ (ellipsoid-read laws level) o s

members-back : (level : Level) (ms : List MemberParts) → Each IsMember ms →
    Each (ReadsBack item_member (ReadsMember class.Member)) (set_members level ms)
unfolding set_members
members-back level ms s =
    set-kept _ (λ m. item_text (item_member m)) _ (ReadsBack item_member (ReadsMember class.Member))
    (λ m q. named-read class.Member (codes "MEMBER") (keyword-names _ _) (norm_member level m)
    (named-kept level m q)) ms s

-- what keywords name in a reference frame, and in an ensemble
pub record DatumNames (c : Class) : Type 0 where
  pub identifiers : NamesId c
  pub anchors : class_named c (codes "ANCHOR") ≡ Some class.Anchor
  pub epochs : class_named c (codes "ANCHOREPOCH") ≡ Some class.AnchorEpoch

pub record EnsembleNames (c : Class) : Type 0 where
  pub identifiers : NamesId c
  pub members : class_named c (codes "MEMBER") ≡ Some class.Member
  pub accuracies : class_named c (codes "ENSEMBLEACCURACY") ≡ Some class.EnsembleAccuracy

-- in a class of reference frames, where the ellipsoid is, if there is one
pub datum-read : LowerLaws → (c : Class) (keyword : List ℕ) → DatumNames c → (level : Level) (d : DatumParts) → IsDatum d →
    MayIn c class.Ellipsoid item_ellipsoid (option_map (norm_ellipsoid level) d.ellipsoid) →
    ReadsBack (item_datum keyword) (ReadsDatum c) (norm_datum level d)
datum-read laws c keyword names level d s on place =
    let look = seen c (a-text d.name ∷
    if-any class.Ellipsoid item_ellipsoid (option_map (norm_ellipsoid level) d.ellipsoid) on ∷
    may-be class.Anchor (text_node (codes "ANCHOR")) d.anchor (λ x. names.anchors) ∷
    may-be class.AnchorEpoch (number_node (codes "ANCHOREPOCH")) d.anchor_epoch (λ v. names.epochs) ∷
    identifiers names.identifiers level d.identifiers ∷ [])
    (at_place place (item_datum keyword (norm_datum level d))) (place + length keyword) refl in record {
      name = refl;
      ellipsoid = opt-field look class.Ellipsoid item_ellipsoid _ _ refl (ellipsoids-back laws level d.ellipsoid s.ellipsoid);
      anchor = text-field look class.Anchor (codes "ANCHOR") d.anchor refl;
      anchor_epoch = opt-field look class.AnchorEpoch (number_node (codes "ANCHOREPOCH")) _ _ refl
          (some-imp _ _ (λ v h p. number-read laws v h 0) d.anchor_epoch s.anchor_epoch);
      identifiers = identifiers-field look level d.identifiers refl s.identifiers;
    }

pub ensemble-read : LowerLaws → (c : Class) → EnsembleNames c → (level : Level) (e : EnsembleParts) → IsEnsemble e →
    MayIn c class.Ellipsoid item_ellipsoid (option_map (norm_ellipsoid level) e.ellipsoid) →
    ReadsBack item_ensemble (ReadsEnsemble c) (norm_ensemble level e)
ensemble-read laws c names level e s on place =
    let look = seen c (a-text e.name ∷
    all-of class.Member item_member (set_members level e.members) (λ m. names.members) ∷
    if-any class.Ellipsoid item_ellipsoid (option_map (norm_ellipsoid level) e.ellipsoid) on ∷
    one-item class.EnsembleAccuracy (number_node (codes "ENSEMBLEACCURACY") e.accuracy) names.accuracies ∷
    identifiers names.identifiers level e.identifiers ∷ [])
    (at_place place (item_ensemble (norm_ensemble level e))) (place + 8) refl in record {
      name = refl;
      members = each-field look class.Member item_member _ _ refl (members-back level e.members s.members);
      ellipsoid = opt-field look class.Ellipsoid item_ellipsoid _ _ refl (ellipsoids-back laws level e.ellipsoid s.ellipsoid);
      accuracy = one-field look class.EnsembleAccuracy (number_node (codes "ENSEMBLEACCURACY")) _ _ refl
          (λ p. number-read laws e.accuracy s.accuracy 0);
      identifiers = identifiers-field look level e.identifiers refl s.identifiers;
    }

-- ---- axes in their one form are read back from their items, and so are the nodes of coordinate systems

-- ---- the meridian of an axis

pub axis-meridian-read : LowerLaws → (level : Level) (m : AxisMeridianParts) → IsAxisMeridian m →
    ReadsBack item_axis_meridian (ReadsAxisMeridian class.AxisMeridian) (norm_axis_meridian level m)
axis-meridian-read laws level m s place =
    let along = norm_unit level kinds.Angle m.unit in
    let angle = angle-kept level m.unit s.unit in
    let look = seen class.AxisMeridian (a-number m.longitude ∷ one-item class.AngleUnit (item_unit along)
    (unit-in class.AxisMeridian class.AngleUnit kinds.Angle (keyword-names _ _) along angle.1) ∷ [])
    (at_place place (item_axis_meridian (norm_axis_meridian level m))) (place + 8) refl in record {
      longitude = number-read laws m.longitude s.longitude 0;
      unit = one-field look class.AngleUnit item_unit _ _ refl
          (unit-read laws class.AngleUnit (keyword-names _ _) along angle.0);
    }

axis-meridians-read : LowerLaws → (level : Level) (o : Option AxisMeridianParts) → IfSome o IsAxisMeridian →
    IfSome (norm_axis_meridians level o) (ReadsBack item_axis_meridian (ReadsAxisMeridian class.AxisMeridian))
axis-meridians-read laws level None s = tt
axis-meridians-read laws level (Some m) s = axis-meridian-read laws level m s

-- ---- the unit of an axis

asked-no-scale : (t : SystemType) (d : Direction) → asked_kind t d ≢ kinds.Scale
asked-no-scale t d e = by (asked-in t d)
  where
    by : IsKindIn class.AxisUnit (asked_kind t d) → ⊥
    by (inl p) = cc
    by (inr p) = cc

as-no-scale : (asked k : UnitKind) → asked ≢ kinds.Scale → k ≢ kinds.Scale → kind_as asked k ≢ kinds.Scale
as-no-scale asked kinds.Plain a n e = a e
as-no-scale asked other a n e = n e

axis-units-kept : (level : Level) (asked : UnitKind) → asked ≢ kinds.Scale → (own shared : Option UnitParts) →
    IfSome own IsAxisUnit → IfSome shared IsAxisUnit →
    IfSome (norm_units level asked (own_or own shared)) IsAxisUnit
axis-units-kept level asked a None None s t = tt
axis-units-kept level asked a None (Some u) s t = (unit-kept level asked u t.0, as-no-scale asked u.kind a t.1)
axis-units-kept level asked a (Some u) shared s t = (unit-kept level asked u s.0, as-no-scale asked u.kind a s.1)

axis-unit-in : (u : UnitParts) → IsAxisUnit u → IsIn class.Axis class.AxisUnit (item_unit u)
axis-unit-in u s = by u.kind refl
  where
    by : (k : UnitKind) → u.kind ≡ k → IsIn class.Axis class.AxisUnit (item_unit u)
    by kinds.Length e = unit-in class.Axis class.AxisUnit kinds.Length (keyword-names _ _) u e
    by kinds.Angle e = unit-in class.Axis class.AxisUnit kinds.Angle (keyword-names _ _) u e
    by kinds.Plain e = unit-in class.Axis class.AxisUnit kinds.Plain (keyword-names _ _) u e
    by kinds.Scale e = absurd (s.1 e)

plain-units-kept : (level : Level) (o : Option UnitParts) → IfSome o IsAxisUnit →
    IfSome (norm_units level kinds.Plain o) IsAxisUnit
plain-units-kept level None s = tt
plain-units-kept level (Some u) s =
    (unit-kept level kinds.Plain u s.0, as-no-scale kinds.Plain u.kind (λ e. cc) s.1)

-- ---- axes

-- an axis whose parts are in their one form
form-read : LowerLaws → (x : AxisParts) → IfSome x.unit IsAxisUnit →
    IfSome x.meridian (ReadsBack item_axis_meridian (ReadsAxisMeridian class.AxisMeridian)) → IfSome x.order IsNormal →
    Each IsIdent x.identifiers → ReadsBack item_axis (ReadsAxis class.Axis) x
form-read laws x unit meridian order ids place =
    let look = seen class.Axis (a-text x.name ∷ a-word (direction_word x.direction) ∷
    may-be class.AxisMeridian item_axis_meridian x.meridian (λ m. keyword-names _ _) ∷
    may-be class.Order (number_node (codes "ORDER")) x.order (λ v. keyword-names _ _) ∷
    if-any class.AxisUnit item_unit x.unit (some-imp _ _ axis-unit-in x.unit unit) ∷
    identifiers-of (keyword-names _ _) x.identifiers ∷ []) (at_place place (item_axis x)) (place + 4) refl in record {
      name = refl;
      direction = refl;
      meridian = opt-field look class.AxisMeridian item_axis_meridian _ _ refl meridian;
      order = opt-field look class.Order (number_node (codes "ORDER")) _ _ refl
          (some-imp _ _ (λ v n p. number-read laws v n 0) x.order order);
      unit = opt-field look class.AxisUnit item_unit _ _ refl
          (some-imp _ _ (λ u q. unit-read laws class.AxisUnit (keyword-names _ _) u q.0) x.unit unit);
      identifiers = identifiers-back look x.identifiers refl ids;
    }

axis-read : LowerLaws → (level : Level) (system : SystemParts) → IfSome system.unit IsAxisUnit → (k : ℕ) →
    IsNormal (whole_value k) → (x : AxisParts) → IsAxis x →
    ReadsBack item_axis (ReadsAxis class.Axis) (norm_axis level system k x)
unfolding norm_axis
axis-read laws level system shared k whole x s =
    form-read laws (norm_axis level system k x)
    (axis-units-kept level (asked_kind system.system_type x.direction)
    (asked-no-scale system.system_type x.direction) x.unit system.unit s.unit shared)
    (axis-meridians-read laws level x.meridian s.meridian) whole (idents-sound level x.identifiers s.identifiers)

pub axis-alone-read : LowerLaws → (level : Level) (x : AxisParts) → IsAxis x →
    ReadsBack item_axis (ReadsAxis class.Axis) (norm_axis_alone level x)
axis-alone-read laws level x s =
    form-read laws (norm_axis_alone level x) (plain-units-kept level x.unit s.unit)
    (axis-meridians-read laws level x.meridian s.meridian) s.order (idents-sound level x.identifiers s.identifiers)

-- ---- the axes of a system

with-read : LowerLaws → (level : Level) (system : SystemParts) → IfSome system.unit IsAxisUnit → (k : ℕ) →
    IsNormal (whole_value k) → (o : Option AxisParts) → IfSome o IsAxis → (rest : List AxisParts) →
    Each (ReadsBack item_axis (ReadsAxis class.Axis)) rest →
    Each (ReadsBack item_axis (ReadsAxis class.Axis)) (with_axis level system k o rest)
with-read laws level system shared k whole None s rest r = r
with-read laws level system shared k whole (Some x) s rest r = (axis-read laws level system shared k whole x s, r)

pub axes-read : LowerLaws → (level : Level) (system : SystemParts) → IsSystem system → (k n : ℕ) → 1 ≤ k → k + n ≤ 4 →
    Each (ReadsBack item_axis (ReadsAxis class.Axis)) (axes_from level system k n)
axes-read laws level system s k zero low high = tt
axes-read laws level system s k (suc n) low high =
    with-read laws level system s.unit k (whole-normal k low (omega arith)) (axis_at k 1 system.axes)
    (at-all IsAxis k 1 system.axes s.axes) (axes_from level system (k + 1) n)
    (axes-read laws level system s (k + 1) n (omega arith) (omega arith))

-- ---- the node of a system

pub head-read : LowerLaws → (level : Level) (system : SystemParts) → IsSystem system → (place : ℕ) →
    ReadsHead (at_place place (item_head (norm_system level system))) (norm_system level system)
head-read laws level system s place =
    let look = seen class.CoordinateSystem (a-word (system_word system.system_type) ∷ a-number system.dimension ∷
    identifiers (keyword-names _ _) level system.identifiers ∷ [])
    (at_place place (item_head (norm_system level system))) (place + 2) refl in record {
      system_type = refl;
      dimension = number-read laws system.dimension s.dimension 0;
      identifiers = identifiers-field look level system.identifiers refl s.identifiers;
    }
