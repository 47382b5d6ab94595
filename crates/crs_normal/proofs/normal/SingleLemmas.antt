-- Normal coordinate systems, dynamic parts, frames of either sort and CRSs of one kind are the one form of their values.
use Rattle.std.proofs.Common.{IsFalse, ◌≡◌, ℕ, suc, ◌+◌, ◌^◌, ◌≤◌, ◌<◌, length, true, false, Option, Some, List, [], ◌∷◌, if◌then◌else◌, decimal, refl, sym, ◌∙◌, ap, ap₂, arith, codes, inl, inr, ◌≢◌}
use Rattle.std.specs.Str.{bytes_eq}
use Rattle.std.proofs.lemmas.Fmt.{decimal_injective}
use Rattle.std.proofs.lemmas.Slice.Eq.{bytes_eq-Decides}
use Rattle.crs_decimal.specs.inner.Prelude.{Value}
use Rattle.crs_text.specs.inner.Prelude.{Item, Siblings, More, arguments, End, RefusedAt}
use Rattle.crs_shape.specs.declared.class.Class.{Class}
use Rattle.crs_shape.specs.declared.system_type.SystemType.{SystemType}
use Rattle.crs_shape.specs.inner.Prelude.{SlotParts, dimensions_of, geodetic_slots}
use Rattle.crs_value.specs.inner.Prelude.{those, ReadsEach, ReadsAxis, ReadsHead, ReadsSystem, AxisParts, SystemParts, ReadsDynamic, BreaksAmong, ReadsElse, ReadsFirst, ReadsDatum, ReadsEnsemble, ReadsAsDatum, ReadsAsEnsemble, ReadsBase, Own, ReadsProjected, ReadsVertical, OfCrs, GeodeticParts, ReadsGeodetic}
use Rattle.crs_value.specs.declared.values.level.Level.{Level}
use Rattle.crs_normal.specs.Normal.{AreOrdered, Has, HasAxes, HasTail}
use Rattle.crs_value.specs.Sound.{Each}
use Rattle.crs_normal.specs.inner.SpelledItems.{each}
use Rattle.crs_normal.specs.inner.SpelledCrs.{axes_from, axis_at, is_at, item_axis, item_head, norm_system, system_items, with_axis, item_deformation_model, item_dynamic, norm_deformation_model, norm_dynamic, item_base, norm_base, item_projected, item_vertical, norm_projected, norm_vertical, geodetic_keyword, item_geodetic, norm_geodetic}
use Rattle.crs_normal.specs.inner.LowerLaws.{LowerLaws}
use Rattle.crs_normal.proofs.normal.UnitLemmas.{IsNumbered, axis-form, type-form, idents-in, in-angle, unit-form, deformation_model-form, member-form, conversion-form}
use Rattle.crs_normal.proofs.normal.FormLemmas.{Form, IsGood, Looked, Opened, by-slots, found-in, front_in, good-in, one-in, spelled-by, mapped-in, missing-in, only-in, optional-in, set-in, there-in}
use Rattle.crs_normal.proofs.normal.DimensionLemmas.{AreSmall, small-projected, small-vertical, small-geodetic, small-geographic}
use Rattle.crs_normal.proofs.normal.HeadLemmas.{AreFree, each-length, few-axes, geographic-type, not-ellipsoidal}
use Rattle.crs_normal.proofs.normal.LeafLemmas.{PlainIsOne, number-form, number-node-form, text-form}
use Rattle.crs_normal.proofs.read.ViewLemmas.{without_places_onto, slot_at, onto}
use Rattle.crs_value.specs.declared.values.frame.Frame.{Frame}
use Rattle.crs_normal.proofs.WithoutPlaces.{without_places}
use Rattle.crs_normal.specs.inner.SpelledFrames.{item_datum, item_ellipsoid, item_ensemble, item_frame, item_member, item_meridian, norm_datum, norm_ellipsoid, norm_ensemble, norm_frame, norm_given, norm_member, norm_meridian, set_members}
use Rattle.crs_normal.proofs.normal.CheckedLemmas.{Checked, IsUnbroken, by-class, first-or-none, unbroken-by-slots, unbroken-in, first-checked}
use Rattle.crs_normal.proofs.normal.FrameLemmas.{ZeroPlain, ellipsoid-form, meridian-form, geodetic_datum-form, vertical_datum-form}
use Rattle.crs_normal.proofs.members.MemberLemmas.{Alone, opt-units}
use Rattle.crs_normal.proofs.normal.IdentLemmas.{vertical_end-as}
use Rattle.crs_normal.proofs.normal.TailLemmas.{plain_tail-in, tail-in}
use Rattle.crs_shape.specs.declared.class.Class.TheVariants as class
use Rattle.crs_shape.specs.declared.unit_kind.UnitKind.TheVariants as kinds
use Rattle.crs_value.specs.declared.values.frame.Frame.TheVariants as frame
use Rattle.crs_shape.specs.declared.system_type.SystemType.TheVariants as types

-- ---- the axes at their positions

abbrev limit : ℕ
limit = 2 ^ 64

at-order : (k j place : ℕ) (order : Option Value) → IsNumbered j order →
    is_at k place order ≡ bytes_eq (decimal j) (decimal k)
at-order k j place order n = ap (is_at k place) n.is ∙ ap (λ bytes. bytes_eq bytes (decimal k)) n.spelled

at-here : (k place : ℕ) (order : Option Value) → IsNumbered k order → is_at k place order ≡ true
at-here k place order n = at-order k k place order n ∙ (bytes_eq-Decides (decimal k) (decimal k)).1 refl

not-here : (k j place : ℕ) (order : Option Value) → IsNumbered j order → j < k → k < limit →
    is_at k place order ≡ false
not-here k j place order n less within =
    let apart : bytes_eq (decimal j) (decimal k) ≡ false =
    grind (arith, bytes_eq-Decides (decimal j) (decimal k), decimal_injective j k, less, within) in
    at-order k j place order n ∙ apart

-- an axis of this position or a later one is found among these, which come after the others
abbrev IsAmong : ℕ → List AxisParts → List AxisParts → Type 0
IsAmong k axes all = (j : ℕ) → k ≤ j → j < limit → (place : ℕ) × (axis_at j 1 all ≡ axis_at j place axes)

axes-in : PlainIsOne → (level : Level) (c : Class) (system : SystemParts) (k : ℕ) (items : List Item)
    (axes : List AxisParts) → Each (IsGood level c class.Axis) items → AreOrdered k items →
    Each (Has class.Axis class.AxisUnit) items → ReadsEach (ReadsAxis class.Axis) items axes →
    IsAmong k axes system.axes → k + length axes < limit → (rest : Siblings) →
    without_places_onto items rest ≡ each item_axis (axes_from level system k (length axes)) rest
axes-in law level c system k [] [] good ordered own reads among within rest = refl
axes-in law level c system k [] (x ∷ xs) good ordered own reads among within rest = absurd reads
axes-in law level c system k (i ∷ is) [] good ordered own reads among within rest = absurd reads
axes-in law level c system k (i ∷ is) (x ∷ xs) good ordered own reads among within rest =
    let this = axis-form law level c system k i x good.0 ordered.0 own.0 reads.0 in
    let here = among k (omega arith) (omega (arith, within)) in
    ap₂ More this.0
    (axes-in law level c system (k + 1) is xs good.1 ordered.1 own.1 reads.1 (later this.1) within_more rest)
    ∙ ap (λ found. each item_axis (with_axis level system k found (axes_from level system (k + 1) (length xs))) rest)
    (sym (here.1 ∙ ap (λ b. if b then Some x else axis_at k (here.0 + 1) xs) (at-here k here.0 x.order this.1)))
  where
    later : IsNumbered k x.order → IsAmong (k + 1) xs system.axes
    later numbered_so j least less =
        let a = among j (omega (arith, least)) less in (
          a.0 + 1,
          a.1 ∙ ap (λ b. if b then Some x else axis_at j (a.0 + 1) xs)
              (not-here j k a.0 x.order numbered_so (omega (arith, least)) less),
        )

    within_more : (k + 1) + length xs < limit
    within_more = let h : length (x ∷ xs) ≡ suc (length xs) = refl in omega (arith, within)

-- ---- systems

head-form : PlainIsOne → (level : Level) (c : Class) →
    Form level c class.CoordinateSystem ReadsHead (λ s. item_head (norm_system level s))
head-form law level c =
    let d = class.CoordinateSystem in
    by-slots refl (λ item keyword x o reads. spelled-by o o.written
    (one-in o 0 (type-form level) refl refl x.system_type reads.system_type
    (one-in o 1 (number-form law level d (λ raw h. h)) refl refl x.dimension reads.dimension
    (idents-in o 2 refl x.identifiers reads.identifiers refl))))

-- the node `CS`, the axes and no shared unit
pub system-in : LowerLaws → {level : Level} {c : Class} {slots : List SlotParts} {item : Item} {keyword : List ℕ}
    (o : Opened level c slots item keyword) → HasAxes c item → (dimensions : SystemType → List ℕ) →
    ((t : SystemType) → AreSmall (dimensions t)) → AreFree dimensions (those c class.CoordinateSystem (arguments item))
    (those c class.Axis (arguments item)) (those c class.AxisUnit (arguments item)) → (k : ℕ) →
    Looked o class.CoordinateSystem (front_in o k) → IsFalse (slot_at slots k).many →
    Looked o class.Axis (front_in o (suc k)) → Looked o class.AxisUnit (front_in o (suc (suc k))) →
    (x : SystemParts) → ReadsSystem c item x → {rest after : Siblings} → rest ≡ after →
    without_places_onto (front_in o k) (without_places_onto (front_in o (suc k))
    (without_places_onto (front_in o (suc (suc k))) rest)) ≡ system_items (norm_system level x) after
system-in laws {level = level} {c = c} {item = item} o has dimensions small free k e single f g x reads
    {rest = rest} {after = after} same =
    let found = those c class.Axis (arguments item) in
    let within = few-axes laws dimensions small _ _ _ free x reads.head
    (each-length (ReadsAxis class.Axis) found x.axes reads.axes) in
    one-in o k (head-form laws.plain_one level c) e single x reads.head
    (ap (λ us. without_places_onto (front_in o (suc k)) (without_places_onto us rest))
    (sym (found-in o class.AxisUnit g)
    ∙ has.none_shared)
    ∙ ap (without_places_onto (front_in o (suc k))) same ∙ ap (λ xs. without_places_onto xs after)
    (sym (found-in o class.Axis f))
    ∙ axes-in laws.plain_one level c x 1 found x.axes (good-in o class.Axis) has.ordered has.own_units reads.axes
    (λ j least less. (1, refl)) (omega (arith, within)) after)

-- ---- normal dynamic parts are the one form of their values

pub dynamic-form : PlainIsOne → (level : Level) (c : Class) →
    Form level c class.Dynamic (ReadsDynamic class.Dynamic) (λ d. item_dynamic (norm_dynamic level d))
dynamic-form law level c =
    let d = class.Dynamic in
    by-slots refl (λ item keyword x o reads. spelled-by o o.written
    (one-in o 0 (number-node-form law level d class.FrameEpoch (codes "FRAMEEPOCH") refl (λ bytes h. h) (λ raw h. h))
    refl refl x.epoch reads.epoch
    (mapped-in o item_deformation_model (norm_deformation_model level) (deformation_model-form level d) 1 refl refl
    x.model reads.model refl)))

-- ---- normal ensembles, frames of either sort, and base CRSs are the one form of their values

pub geodetic_ensemble-form : PlainIsOne → (level : Level) (c : Class) →
    Form level c class.GeodeticEnsemble (ReadsEnsemble class.GeodeticEnsemble)
    (λ e. item_ensemble (norm_ensemble level e))
unfolding set_members
geodetic_ensemble-form law level c =
    let d = class.GeodeticEnsemble in
    by-slots refl (λ item keyword x o reads. spelled-by o o.written
    (one-in o 0 (text-form level d) refl refl x.name reads.name
    (set-in o item_member (norm_member level) (member-form level d) 1 refl o.sets.1.1.0 x.members reads.members
    (mapped-in o item_ellipsoid (norm_ellipsoid level) (ellipsoid-form law level d) 2 refl refl x.ellipsoid
    reads.ellipsoid
    (one-in o 3 (number-node-form law level d class.EnsembleAccuracy (codes "ENSEMBLEACCURACY") refl (λ bytes h. h)
    (λ raw h. h)) refl refl x.accuracy reads.accuracy
    (idents-in o 4 refl x.identifiers reads.identifiers refl))))))

pub vertical_ensemble-form : PlainIsOne → (level : Level) (c : Class) →
    Form level c class.VerticalEnsemble (ReadsEnsemble class.VerticalEnsemble)
    (λ e. item_ensemble (norm_ensemble level e))
unfolding set_members
vertical_ensemble-form law level c =
    let d = class.VerticalEnsemble in
    by-slots refl (λ item keyword x o reads. spelled-by o o.written
    (one-in o 0 (text-form level d) refl refl x.name reads.name
    (set-in o item_member (norm_member level) (member-form level d) 1 refl o.sets.1.1.0 x.members reads.members
    (missing-in o item_ellipsoid (norm_ellipsoid level) (ellipsoid-form law level d) refl x.ellipsoid reads.ellipsoid
    (one-in o 2 (number-node-form law level d class.EnsembleAccuracy (codes "ENSEMBLEACCURACY") refl (λ bytes h. h)
    (λ raw h. h)) refl refl x.accuracy reads.accuracy
    (idents-in o 3 refl x.identifiers reads.identifiers refl))))))

-- ---- frames of either sort

-- the frame in a slot for one of two classes
pub frame-in : {level : Level} {c : Class} {slots : List SlotParts} {item : Item} {name : List ℕ}
    (o : Opened level c slots item name) (d e : Class) (keyword : List ℕ) →
    Form level c d (Checked d (ReadsDatum d)) (λ x. item_datum keyword (norm_datum level x)) →
    Form level c e (ReadsEnsemble e) (λ x. item_ensemble (norm_ensemble level x)) → (front : List Item) → Alone front →
    Looked o d (those c d (onto front End)) → Looked o e (those c e (onto front End)) →
    ((fault : RefusedAt) → ¬ (BreaksAmong c (arguments item) fault)) → (value : Frame) →
    ReadsElse (ReadsAsDatum d) (those c d (arguments item))
    (ReadsFirst (ReadsAsEnsemble e) (those c e (arguments item))) value → {rest after : Siblings} → rest ≡ after →
    without_places_onto front rest ≡ More (item_frame keyword (norm_frame level value)) after
frame-in {level = level} {c = c} {item = item} o d e keyword datum ensemble front p same same_ensemble free value reads
    {rest = rest} f =
    ap (λ xs. without_places_onto xs rest) p.1
    ∙ ap₂ More
    (by-class o (ReadsAsDatum d) (ReadsFirst (ReadsAsEnsemble e) (those c e (arguments item))) d p same reads
    (λ has. as_datum value (has (IsGood level c d) (good-in o d)) (has (IsUnbroken d) (unbroken-in o d free)))
    (λ not r. by-class o (ReadsAsEnsemble e) (λ v. ⊥) e p same_ensemble (first-or-none (ReadsAsEnsemble e) _ value r)
    (λ has. as_ensemble value (has (IsGood level c e) (good-in o e))) (λ not none. absurd none))) f
  where
    as_datum : (v : Frame) → IsGood level c d p.0 → IsUnbroken d p.0 → ReadsAsDatum d p.0 v →
        without_places p.0 ≡ item_frame keyword (norm_frame level v)
    as_datum (frame.Datum x) good free reads = datum p.0 x good (free, reads)
    as_datum (frame.Ensemble x) good free reads = absurd reads

    as_ensemble : (v : Frame) → IsGood level c e p.0 → ReadsAsEnsemble e p.0 v →
        without_places p.0 ≡ item_frame keyword (norm_frame level v)
    as_ensemble (frame.Datum x) good reads = absurd reads
    as_ensemble (frame.Ensemble x) good reads = ensemble p.0 x good reads

-- ---- base CRSs

pub base-form : PlainIsOne → ZeroPlain → (level : Level) (c : Class) →
    Form level c class.BaseCrs (Checked class.BaseCrs (ReadsBase class.BaseCrs)) (λ b. item_base (norm_base level b))
base-form law zero_plain level c =
    let d = class.BaseCrs in
    unbroken-by-slots refl (λ item keyword x o free inner reads. spelled-by o o.written
    (one-in o 0 (text-form level d) refl refl x.name reads.name
    (mapped-in o item_dynamic (norm_dynamic level) (dynamic-form law level d) 1 refl refl x.dynamic reads.dynamic
    (frame-in o class.GeodeticFrame class.GeodeticEnsemble (codes "DATUM") (geodetic_datum-form law level d)
    (geodetic_ensemble-form law level d) (front_in o 2) (only-in o 2 refl refl) refl refl inner x.frame reads.frame
    (there-in o item_meridian (norm_given level) (meridian-form law zero_plain level d) (norm_meridian level) (λ m. refl) 3
    refl refl o.own x.meridian reads.meridian
    (optional-in o 4 (unit-form law level d class.AngleUnit kinds.Angle refl (in-angle kinds.Angle) (λ raw h. h)) refl
    refl x.unit reads.unit
    (idents-in o 5 refl x.identifiers reads.identifiers refl)
    ∙ opt-units level kinds.Angle x.unit _))))))

-- ---- normal projected and vertical CRSs are the one form of their values

pub projected-form : LowerLaws → (level : Level) (c : Class) →
    Form level c class.ProjectedCrs (Checked class.ProjectedCrs (ReadsProjected class.ProjectedCrs))
    (λ p. item_projected (norm_projected level p))
unfolding Own
projected-form laws level c =
    let d = class.ProjectedCrs in
    let law = laws.plain_one in
    unbroken-by-slots refl (λ item keyword x o own inner reads. spelled-by o o.written
    (one-in o 0 (text-form level d) refl refl x.name reads.name
    (one-in o 1 (base-form law laws.zero_plain level d) refl refl x.base
    (first-checked class.BaseCrs (ReadsBase class.BaseCrs) _ x.base (unbroken-in o class.BaseCrs inner) reads.base)
    (one-in o 2 (conversion-form law level d) refl refl x.conversion reads.conversion
    (system-in laws o o.own.0 (dimensions_of d) small-projected (λ fault b. own fault (inr (inl b))) 3 refl refl refl refl
    x.system reads.system
    (plain_tail-in o 6 law o.own.1 (λ fault b. own fault (inl b)) refl refl
    (refl, (refl, (refl, (refl, (refl, (refl, (refl, tt))))))) x.tail reads.tail))))))

pub vertical-form : LowerLaws → (level : Level) (c : Class) →
    Form level c class.VerticalCrs (Checked class.VerticalCrs (ReadsVertical class.VerticalCrs))
    (λ p. item_vertical (norm_vertical level p))
unfolding Own
vertical-form laws level c =
    let d = class.VerticalCrs in
    let law = laws.plain_one in
    unbroken-by-slots refl (λ item keyword x o own inner reads. spelled-by o o.written
    (one-in o 0 (text-form level d) refl refl x.name reads.name
    (mapped-in o item_dynamic (norm_dynamic level) (dynamic-form law level d) 1 refl refl x.dynamic reads.dynamic
    (frame-in o class.VerticalFrame class.VerticalEnsemble (codes "VDATUM") (vertical_datum-form law level d)
    (vertical_ensemble-form law level d) (front_in o 2) (only-in o 2 refl refl) refl refl inner x.frame reads.frame
    (system-in laws o o.own.0 (dimensions_of d) small-vertical (λ fault b. own fault (inr (inl b))) 3 refl refl refl refl
    x.system reads.system
    (tail-in o 6 law o.own.1 (λ fault b. own fault (inl b)) (vertical_end-as d) refl
    (refl, (refl, (refl, (refl, (refl, (refl, (refl, tt))))))) x.geoid_models reads.geoid_models x.tail reads.tail))))))

-- ---- normal geodetic and geographic CRSs are the one form of their values

geodetic-node : LowerLaws → {level : Level} {c : Class} {item : Item} {keyword : List ℕ}
    (o : Opened level c geodetic_slots item keyword) → Has c class.PrimeMeridian item → HasAxes c item → HasTail c item →
    ((t : SystemType) → AreSmall (dimensions_of c t)) → ((fault : RefusedAt) → ¬ (OfCrs (dimensions_of c) c item fault)) →
    ((fault : RefusedAt) → ¬ (BreaksAmong c (arguments item) fault)) → (x : GeodeticParts) → ReadsGeodetic c item x →
    keyword ≡ geodetic_keyword x.system.system_type → without_places item ≡ item_geodetic (norm_geodetic level x)
geodetic-node laws {level = level} {c = c} o has_meridian has_axes has_tail small own inner x reads named =
    let law = laws.plain_one in
    spelled-by o named
    (one-in o 0 (text-form level c) refl refl x.name reads.name
    (mapped-in o item_dynamic (norm_dynamic level) (dynamic-form law level c) 1 refl refl x.dynamic reads.dynamic
    (frame-in o class.GeodeticFrame class.GeodeticEnsemble (codes "DATUM") (geodetic_datum-form law level c)
    (geodetic_ensemble-form law level c) (front_in o 2) (only-in o 2 refl refl) refl refl inner x.frame reads.frame
    (there-in o item_meridian (norm_given level) (meridian-form law laws.zero_plain level c) (norm_meridian level) (λ m. refl)
    3 refl refl has_meridian x.meridian reads.meridian
    (system-in laws o has_axes (dimensions_of c) small (λ fault b. own fault (inr (inl b))) 4 refl refl refl refl x.system
    reads.system
    (plain_tail-in o 7 law has_tail (λ fault b. own fault (inl b)) refl refl
    (refl, (refl, (refl, (refl, (refl, (refl, (refl, tt))))))) x.tail reads.tail))))))

plain-keyword : (t : SystemType) → t ≢ types.Ellipsoidal → codes "GEODCRS" ≡ geodetic_keyword t
plain-keyword types.Ellipsoidal n = absurd (n refl)
plain-keyword other n = refl

pub geodetic-form : LowerLaws → (level : Level) (c : Class) →
    Form level c class.GeodeticCrs (Checked class.GeodeticCrs (ReadsGeodetic class.GeodeticCrs))
    (λ g. item_geodetic (norm_geodetic level g))
unfolding Own
geodetic-form laws level c =
    unbroken-by-slots refl (λ item keyword x o own inner reads.
    geodetic-node laws o o.own.1 o.own.2 o.own.3 small-geodetic own inner x reads
    (o.written ∙ plain-keyword x.system.system_type
    (not-ellipsoidal level class.GeodeticCrs _ (good-in o class.CoordinateSystem) o.own.0 x.system reads.system.head)))

pub geographic-form : LowerLaws → (level : Level) (c : Class) →
    Form level c class.GeographicCrs (Checked class.GeographicCrs (ReadsGeodetic class.GeographicCrs))
    (λ g. item_geodetic (norm_geodetic level g))
unfolding Own
geographic-form laws level c =
    unbroken-by-slots refl (λ item keyword x o own inner reads.
    geodetic-node laws o o.own.0 o.own.1 o.own.2 small-geographic own inner x reads
    (o.written ∙ ap geodetic_keyword
    (sym (geographic-type _ _ _ (λ fault b. own fault (inr (inl b))) x.system reads.system.head))))
