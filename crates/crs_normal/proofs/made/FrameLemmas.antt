-- Datums, ensembles, frames of either sort, prime meridians and conversions are made.
use Rattle.std.proofs.Common.{ℕ, Option, Some, None, [], ◌∷◌, map, codes, IfSome, IsNone, IsSome, refl, arith, ◌++◌, List, drop, inl, inr, ◌≡◌, subst, ◌<◌, ◌≤◌, Bool, true, false, if◌then◌else◌, sym, ap, ◌∙◌, IsUtf8}
use Rattle.crs_text.specs.inner.Prelude.{at_place, Item, Siblings, arguments, RefusedAt, raw_of}
use Rattle.crs_shape.specs.inner.Prelude.{is_keyword, class_named, optional_of, takes}
use Rattle.crs_value.specs.declared.values.frame.Frame.{Frame}
use Rattle.crs_value.specs.declared.values.level.Level.{Level}
use Rattle.crs_value.specs.inner.Prelude.{IsEllipsoid, IsEnsemble, IsGeodeticFrame, IsVerticalFrame, EllipsoidParts, EnsembleParts, Own as BreaksOwn, AnyOf, anchors, those, IsRepeated, RepeatsAny, IsDatum, DatumParts, kept-none, IsMeridian, IsUnitOf, MeridianParts, UnitParts, ConversionParts, ParameterParts, IsUnit, IsConversion, IsParameter}
use Rattle.crs_normal.specs.inner.LowerLaws.{LowerLaws}
use Rattle.crs_normal.specs.inner.SpelledFrames.{item_ellipsoid, item_ensemble, item_frame, item_member, norm_ellipsoid, norm_ensemble, norm_frame, norm_member, set_members, greenwich, is_zero, item_meridian, norm_given, norm_meridian}
use Rattle.crs_normal.proofs.made.AscendLemmas.{set-ascends}
use Rattle.crs_normal.proofs.made.PartLemmas.{ellipsoid-made, given-unit, member-made, method-made}
use Rattle.crs_normal.proofs.made.IdentLemmas.{ids-of, ids-orderly, ids_run, geodetic_frame_class, vertical_frame_class, IsKindIn, unit-made}
use Rattle.crs_normal.proofs.made.NodeLemmas.{IsAcceptedNormal, IsOrderly, given, Made, as-argument, IsFree}
use Rattle.crs_normal.proofs.made.ArgumentLemmas.{made-of, one-number, text-of, node-of, set-of, may-number, may-text, may-of, number-of, Argument}
use Rattle.crs_shape.specs.declared.class.Class.{Class}
use Rattle.crs_value.specs.Sound.{Each}
use Rattle.crs_normal.specs.inner.Prelude.{item_datum, item_ellipsoid, norm_datum, norm_ellipsoid, number_node, text_node, number_item, item_unit, norm_units, whole_value, unit_class, item_conversion, item_method, item_parameter, norm_conversion, norm_method, norm_parameter, set_parameters}
use Rattle.crs_normal.proofs.made.PlaceLemmas.{ArePlaced, same-of}
use Rattle.std.proofs.lemmas.Fmt.{decimal_digit}
use Rattle.crs_decimal.specs.inner.Prelude.{Denotes, plain, Value, IsNormal, exact}
use Rattle.crs_value.specs.Values.{IdentParts}
use Rattle.crs_normal.specs.Normal.{HasNoUnitAtZero}
use Rattle.crs_normal.proofs.members.IdentLemmas.{none-form}
use Rattle.crs_normal.proofs.texts.SegmentLemmas.{placed-none}
use Rattle.crs_shape.specs.declared.unit_kind.UnitKind.{UnitKind}
use Rattle.crs_same.specs.inner.Prelude.{kind_as}
use Rattle.crs_normal.proofs.members.ParameterLemmas.{named-as}
use Rattle.crs_shape.specs.declared.class.Class.TheVariants as class
use Rattle.crs_value.specs.declared.values.frame.Frame.TheVariants as frame
use Rattle.crs_shape.specs.declared.unit_kind.UnitKind.TheVariants as kinds

-- ---- datums

-- none follows a part that may be missing
pub given-once : {A : Type 0} (spell : A → Item) (x : Option A) (items : List Item) →
    ArePlaced items (given spell x ++ []) →
    drop 1 items ≡ []
given-once spell None [] h = refl
given-once spell None (item ∷ items) h = absurd h
given-once spell (Some x) [] h = absurd h
given-once spell (Some x) (item ∷ []) h = refl
given-once spell (Some x) (item ∷ other ∷ items) h = absurd h.1

pub none-repeats : (c : Class) (items : Siblings) (fault : RefusedAt) (cs : List Class) →
    Each (λ e. drop 1 (those c e items) ≡ []) cs → ¬ (RepeatsAny c items cs fault)
none-repeats c items fault [] h b = b
none-repeats c items fault (e ∷ cs) h (inl b) = subst (λ js. AnyOf IsRepeated js fault) h.0 b
none-repeats c items fault (e ∷ cs) h (inr b) = none-repeats c items fault cs h.1 b

datum-repeats : (c : Class) (d : DatumParts) (item : Item) (fault : RefusedAt) →
    ArePlaced (those c class.Anchor (arguments item)) (given (text_node (codes "ANCHOR")) d.anchor ++ []) →
    ArePlaced (those c class.AnchorEpoch (arguments item))
    (given (number_node (codes "ANCHOREPOCH")) d.anchor_epoch ++ []) →
    ¬ (RepeatsAny c (arguments item) anchors fault)
datum-repeats c d item fault a e =
    none-repeats c (arguments item) fault anchors (
      given-once (text_node (codes "ANCHOR")) d.anchor (those c class.Anchor (arguments item)) a,
      (given-once (number_node (codes "ANCHOREPOCH")) d.anchor_epoch (those c class.AnchorEpoch (arguments item)) e, tt),
    )

pub geodetic-datum-made : LowerLaws → (level : Level) (x : Option EllipsoidParts) (d : DatumParts) → IsSome x →
    IfSome x IsEllipsoid → IsDatum d → (p : ℕ) →
    IsAcceptedNormal level class.GeodeticFrame 5 (at_place p (item_datum (codes "DATUM")
    (norm_datum level (record d { ellipsoid = x }))))
unfolding BreaksOwn class_named is_keyword
geodetic-datum-made l level None d some e h = absurd (cc some)
geodetic-datum-made l level (Some x) d some e h =
    made-of level 4 class.GeodeticFrame (codes "DATUM") _ _ (text-of d.name h.name ∷
    node-of (item_ellipsoid (norm_ellipsoid level x)) (omega arith) refl (ellipsoid-made l level x e) ∷
    may-text class.Anchor (codes "ANCHOR") (refl, refl) refl refl (λ item. tt) (λ item fault b. b) refl (omega arith)
    refl d.anchor h.anchor ∷ may-number class.AnchorEpoch (codes "ANCHOREPOCH") (refl, refl) refl refl (λ item. tt)
    (λ item fault b. b) refl (omega arith) l refl d.anchor_epoch h.anchor_epoch ∷
    ids-of l d.identifiers (omega arith) refl h.identifiers ∷ []) refl (refl, refl) refl refl refl
    (ids-orderly level d.identifiers) (λ item s r. r)
    (λ item fault s. datum-repeats class.GeodeticFrame d item fault (s.view class.Anchor) (s.view class.AnchorEpoch))

pub vertical-datum-made : LowerLaws → (level : Level) (x : Option EllipsoidParts) (d : DatumParts) → IsNone x →
    IsDatum d → (p : ℕ) →
    IsAcceptedNormal level class.VerticalFrame 5 (at_place p (item_datum (codes "VDATUM")
    (norm_datum level (record d { ellipsoid = x }))))
unfolding BreaksOwn class_named is_keyword
vertical-datum-made l level (Some x) d none h = absurd (cc none)
vertical-datum-made l level None d none h =
    made-of level 4 class.VerticalFrame (codes "VDATUM") _ _ (text-of d.name h.name ∷
    may-text class.Anchor (codes "ANCHOR") (refl, refl) refl refl (λ item. tt) (λ item fault b. b) refl (omega arith)
    refl d.anchor h.anchor ∷ may-number class.AnchorEpoch (codes "ANCHOREPOCH") (refl, refl) refl refl (λ item. tt)
    (λ item fault b. b) refl (omega arith) l refl d.anchor_epoch h.anchor_epoch ∷
    ids-of l d.identifiers (omega arith) refl h.identifiers ∷ []) refl (refl, refl) refl refl refl
    (ids-orderly level d.identifiers) (λ item s r. r)
    (λ item fault s. datum-repeats class.VerticalFrame d item fault (s.view class.Anchor) (s.view class.AnchorEpoch))

-- ---- ensembles

ensemble-orderly : (level : Level) (e : EnsembleParts) →
    IsOrderly level (record { of = class.Member; items = map item_member (set_members level e.members) } ∷
    ids_run level e.identifiers ∷ [])
unfolding set_members
ensemble-orderly level e =
    let ids = ids-orderly level e.identifiers in
    ((ids.0.0, (tt, (set-ascends item_member (map (norm_member level) e.members), (tt, (tt, tt))))), ids.1)

geodetic-ensemble-made : LowerLaws → (level : Level) (x : Option EllipsoidParts) (e : EnsembleParts) → IsSome x →
    IfSome x IsEllipsoid → IsEnsemble e →
    (p : ℕ) → IsAcceptedNormal level class.GeodeticEnsemble 5
    (at_place p (item_ensemble (norm_ensemble level (record e { ellipsoid = x }))))
unfolding BreaksOwn class_named is_keyword set_members
geodetic-ensemble-made l level None e some f h = absurd (cc some)
geodetic-ensemble-made l level (Some x) e some f h =
    made-of level 4 class.GeodeticEnsemble (codes "ENSEMBLE") _ _ (text-of e.name h.name ∷
    set-of class.Member (norm_member level) item_member e.members (Some h.some) (omega arith) (λ m. refl) h.members
    (member-made l level) ∷
    node-of (item_ellipsoid (norm_ellipsoid level x)) (omega arith) refl (ellipsoid-made l level x f) ∷
    one-number class.EnsembleAccuracy (codes "ENSEMBLEACCURACY") (refl, refl) refl refl (λ item. tt)
    (λ item fault b. b) refl (omega arith) l refl e.accuracy h.accuracy ∷
    ids-of l e.identifiers (omega arith) refl h.identifiers ∷ []) refl (refl, refl) refl refl refl
    (ensemble-orderly level e) (λ item s r. tt) (λ item fault s b. b)

vertical-ensemble-made : LowerLaws → (level : Level) (x : Option EllipsoidParts) (e : EnsembleParts) → IsNone x →
    IsEnsemble e →
    (p : ℕ) → IsAcceptedNormal level class.VerticalEnsemble 5
    (at_place p (item_ensemble (norm_ensemble level (record e { ellipsoid = x }))))
unfolding BreaksOwn class_named is_keyword set_members
vertical-ensemble-made l level (Some x) e none h = absurd (cc none)
vertical-ensemble-made l level None e none h =
    made-of level 4 class.VerticalEnsemble (codes "ENSEMBLE") _ _ (text-of e.name h.name ∷
    set-of class.Member (norm_member level) item_member e.members (Some h.some) (omega arith) (λ m. refl) h.members
    (member-made l level) ∷
    one-number class.EnsembleAccuracy (codes "ENSEMBLEACCURACY") (refl, refl) refl refl (λ item. tt)
    (λ item fault b. b) refl (omega arith) l refl e.accuracy h.accuracy ∷
    ids-of l e.identifiers (omega arith) refl h.identifiers ∷ []) refl (refl, refl) refl refl refl
    (ensemble-orderly level e) (λ item s r. tt) (λ item fault s b. b)

-- ---- frames

pub geodetic-frame-made : LowerLaws → (level : Level) (f : Frame) → IsGeodeticFrame f → (p : ℕ) →
    IsAcceptedNormal level (geodetic_frame_class f) 5 (at_place p (item_frame (codes "DATUM") (norm_frame level f)))
geodetic-frame-made l level (frame.Datum d) h = geodetic-datum-made l level d.ellipsoid d h.1 h.0.ellipsoid h.0
geodetic-frame-made l level (frame.Ensemble e) h = geodetic-ensemble-made l level e.ellipsoid e h.1 h.0.ellipsoid h.0

pub vertical-frame-made : LowerLaws → (level : Level) (f : Frame) → IsVerticalFrame f → (p : ℕ) →
    IsAcceptedNormal level (vertical_frame_class f) 5 (at_place p (item_frame (codes "VDATUM") (norm_frame level f)))
vertical-frame-made l level (frame.Datum d) h = vertical-datum-made l level d.ellipsoid d h.1 h.0
vertical-frame-made l level (frame.Ensemble e) h = vertical-ensemble-made l level e.ellipsoid e h.1 h.0

-- ---- prime meridians are made

-- ---- the longitude 0

zero-plain : plain (whole_value 0) ≡ codes "0"
zero-plain = let d : 0 < 10 = omega arith in ap (λ ds. ds ++ []) (decimal_digit 0 d)

plain-zero : LowerLaws → (v : Value) → IsNormal v → plain v ≡ codes "0" → v ≡ whole_value 0
plain-zero l v n e =
    l.denotes_one (codes "0") v (whole_value 0) n refl (subst (λ b. Denotes b (exact v)) e (l.denotes v n))
    (subst (λ b. Denotes b (exact (whole_value 0))) zero-plain (l.denotes (whole_value 0) refl))

-- ---- prime meridians, whose unit isn't written at longitude 0

-- the unit of a prime meridian of this longitude
abbrev unit_at : Level → Value → Option UnitParts → Option UnitParts
unit_at level v x = if is_zero v then None else norm_units level kinds.Angle x

angle-made : LowerLaws → (level : Level) (v : Value) (x : Option UnitParts) → IfSome x (IsUnitOf kinds.Angle) →
    IfSome (unit_at level v x) (λ u. Made level 3 class.PrimeMeridian class.AngleUnit (item_unit u))
unfolding class_named is_keyword
angle-made l level v x h = by (is_zero v)
  where
    by : (b : Bool) → IfSome (if b then None else norm_units level kinds.Angle x)
        (λ u. Made level 3 class.PrimeMeridian class.AngleUnit (item_unit u))
    by true = tt
    by false = given-unit l level class.PrimeMeridian kinds.Angle x (omega arith) refl refl h

none-at-zero : LowerLaws → (level : Level) (v : Value) (x : Option UnitParts) (item : Item) → IsNormal v →
    ArePlaced (those class.PrimeMeridian class.Number (arguments item)) (number_item v ∷ []) →
    ArePlaced (those class.PrimeMeridian class.AngleUnit (arguments item)) (given item_unit (unit_at level v x) ++ []) →
    HasNoUnitAtZero item
none-at-zero l level v x item n numbers units e =
    let p : plain v ∷ [] ≡ codes "0" ∷ [] =
    sym (same-of raw_of (those class.PrimeMeridian class.Number (arguments item)) (number_item v ∷ []) numbers
    (λ place. refl, tt)) ∙ e in
    let q : plain v ≡ codes "0" = cc in
    placed-none (those class.PrimeMeridian class.AngleUnit (arguments item))
    (subst (λ b. ArePlaced (those class.PrimeMeridian class.AngleUnit (arguments item))
    (given item_unit (if b then None else norm_units level kinds.Angle x) ++ [])) (ap is_zero (plain-zero l v n q))
    units)

pub meridian-made : LowerLaws → (level : Level) (m : MeridianParts) → IsMeridian m → (p : ℕ) →
    IsAcceptedNormal level class.PrimeMeridian 4 (at_place p (item_meridian (norm_given level m)))
unfolding BreaksOwn class_named is_keyword
meridian-made l level m h =
    made-of level 3 class.PrimeMeridian (codes "PRIMEM") _ _ (text-of m.name h.name ∷ number-of l m.longitude
    h.longitude ∷
    may-of class.AngleUnit item_unit (unit_at level m.longitude m.unit) (angle-made l level m.longitude m.unit h.unit) ∷
    ids-of l m.identifiers (omega arith) refl h.identifiers ∷ []) refl (refl, refl) refl refl refl
    (ids-orderly level m.identifiers)
    (λ item s r. none-at-zero l level m.longitude m.unit item h.longitude (s.view class.Number) (s.view class.AngleUnit))
    (λ item fault s b. b)

greenwich-name : IsUtf8 (codes "Greenwich")
unfolding lib.Utf8.encode
greenwich-name = (codes "Greenwich", (refl, refl))

abbrev greenwich-with : List IdentParts → MeridianParts
greenwich-with identifiers = record { name = codes "Greenwich"; longitude = whole_value 0; unit = None; identifiers = identifiers }

pub greenwich-made : LowerLaws → (level : Level) (p : ℕ) →
    IsAcceptedNormal level class.PrimeMeridian 4 (at_place p (item_meridian greenwich))
greenwich-made l level p =
    subst (λ identifiers. IsAcceptedNormal level class.PrimeMeridian 4 (at_place p (item_meridian (greenwich-with identifiers))))
    (none-form level [] (kept-none level))
    (meridian-made l level greenwich (record {
      name = ((codes "Greenwich", refl), greenwich-name);
      longitude = refl;
      unit = tt;
      identifiers = tt;
    }) p)

-- a prime meridian as an argument, which is Greenwich where none is written
pub given-meridian : LowerLaws → (level : Level) {most : ℕ} (parent : Class) (m : Option MeridianParts) → 4 ≤ most →
    class_named parent (codes "PRIMEM") ≡ Some class.PrimeMeridian → IfSome m IsMeridian →
    IfSome (norm_meridian level m) (λ g. Made level most parent class.PrimeMeridian (item_meridian g))
given-meridian l level parent None deep named h = as-argument deep named (greenwich-made l level)
given-meridian l level parent (Some m) deep named h = as-argument deep named (meridian-made l level m h)

abbrev pub meridian-of : {level : Level} {most : ℕ} {parent : Class} → LowerLaws → (m : Option MeridianParts) →
    4 ≤ most → class_named parent (codes "PRIMEM") ≡ Some class.PrimeMeridian → IfSome m IsMeridian →
    Argument level most parent
meridian-of {level = level} {parent = parent} l m deep named h =
    may-of class.PrimeMeridian item_meridian (norm_meridian level m) (given-meridian l level parent m deep named h)

-- ---- parameters and conversions are made

-- ---- parameters: the class of the unit is that of its keyword

abbrev given_kind : Option UnitParts → UnitKind
given_kind None = kinds.Plain
given_kind (Some u) = kind_as kinds.Plain u.kind

abbrev unit_classes : List Class
unit_classes = class.PlainUnit ∷ class.LengthUnit ∷ class.AngleUnit ∷ class.ScaleUnit ∷ []

kind-fits : (k : UnitKind) →
    IsKindIn (unit_class k) k × (takes (optional_of unit_classes) (unit_class k) ≡ true) × IsFree (unit_class k)
kind-fits kinds.Length = (refl, refl, λ level items runs h. h)
kind-fits other = (refl, refl, λ level items runs h. h)

parameter-unit : LowerLaws → (level : Level) (x : Option UnitParts) → IfSome x IsUnit →
    IfSome (norm_units level kinds.Plain x) (λ u. Made level 3 class.Parameter (unit_class (given_kind x)) (item_unit u))
parameter-unit l level None h = tt
parameter-unit l level (Some u) h =
    let k : UnitKind = kind_as kinds.Plain u.kind in
    as-argument (omega arith) (named-as k) (unit-made l level (unit_class k) k u (kind-fits k).0 h)

pub parameter-made : LowerLaws → (level : Level) (m : ParameterParts) → IsParameter m → (p : ℕ) →
    IsAcceptedNormal level class.Parameter 4 (at_place p (item_parameter (norm_parameter level m)))
unfolding BreaksOwn class_named is_keyword
parameter-made l level m h =
    made-of level 3 class.Parameter (codes "PARAMETER") _ _ (text-of m.name h.name ∷ number-of l m.value h.value ∷
    may-of (unit_class (given_kind m.unit)) item_unit (norm_units level kinds.Plain m.unit)
    (parameter-unit l level m.unit h.unit) ∷ ids-of l m.identifiers (omega arith) refl h.identifiers ∷ []) refl
    (refl, refl) refl refl (rw (kind-fits (given_kind m.unit)).1 refl)
    ((kind-fits (given_kind m.unit)).2 level (given item_unit (norm_units level kinds.Plain m.unit))
    (ids_run level m.identifiers ∷ []) (ids-orderly level m.identifiers))
    (λ item s r. tt) (λ item fault s b. b)

-- ---- conversions

pub conversion-made : LowerLaws → (level : Level) (m : ConversionParts) → IsConversion m → (p : ℕ) →
    IsAcceptedNormal level class.Conversion 5 (at_place p (item_conversion (norm_conversion level m)))
unfolding BreaksOwn class_named is_keyword set_parameters
conversion-made l level m h =
    made-of level 4 class.Conversion (codes "CONVERSION") _ _ (text-of m.name h.name ∷
    node-of (item_method (norm_method level m.method)) (omega arith) refl
    (method-made l level m.method h.method) ∷
    set-of class.Parameter (norm_parameter level) item_parameter m.parameters None (omega arith) (λ q. refl) h.parameters
    (parameter-made l level) ∷
    ids-of l m.identifiers (omega arith) refl h.identifiers ∷ []) refl (refl, refl) refl refl refl
    (let ids = ids-orderly level m.identifiers in
    ((ids.0.0, (tt, (tt, (set-ascends item_parameter (map (norm_parameter level) m.parameters), (tt, tt))))), ids.1))
    (λ item s r. tt) (λ item fault s b. b)
