-- Normal ellipsoids, prime meridians, reference frames and usages are the one form of their values.
use Rattle.std.proofs.Common.{◌≡◌, ℕ, Bool, true, Option, None, List, [], ◌∷◌, if◌then◌else◌, codes, refl, ◌∙◌, ap, arith}
use Rattle.crs_decimal.specs.inner.Prelude.{plain, Value, IsNormal, zero}
use Rattle.crs_text.specs.inner.Prelude.{Item, Siblings, arguments, End}
use Rattle.crs_shape.specs.declared.class.Class.{Class}
use Rattle.crs_value.specs.inner.Prelude.{those, ReadsFirst, ReadsOptional, ReadsEllipsoid, ReadsMeridian, ReadsNumber, ReadsUnit, UnitParts, Own, ReadsDatum, ReadsBox, ReadsExtent, ReadsUsage}
use Rattle.crs_value.specs.declared.values.level.Level.{Level}
use Rattle.crs_normal.specs.inner.SpelledFrames.{is_zero, item_ellipsoid, item_meridian, norm_ellipsoid, norm_given, item_datum, norm_datum}
use Rattle.crs_normal.specs.inner.SpelledItems.{opt, item_unit, norm_unit, norm_units, item_box, item_extent, item_usage, norm_extent, norm_usage}
use Rattle.crs_normal.proofs.normal.FormLemmas.{Form, by-slots, front_in, one-in, only-in, optional-in, raws-in, spelled-by, front-in, mapped-in, missing-in}
use Rattle.crs_normal.proofs.normal.LeafLemmas.{PlainIsOne, number-form, text-form, text-node-form}
use Rattle.crs_normal.proofs.members.MemberLemmas.{opt-length, two-in, four-in}
use Rattle.crs_normal.proofs.normal.UnitLemmas.{in-angle, in-length, unit-form, idents-in, anchors-in}
use Rattle.crs_normal.proofs.normal.CheckedLemmas.{Checked, unbroken-by-slots}
use Rattle.crs_normal.proofs.normal.LevelLemmas.{normal-in}
use Rattle.crs_shape.specs.declared.class.Class.TheVariants as class
use Rattle.crs_shape.specs.declared.unit_kind.UnitKind.TheVariants as kinds
use Rattle.crs_value.specs.declared.values.level.Level.TheVariants as levels

pub ellipsoid-form : PlainIsOne → (level : Level) (c : Class) →
    Form level c class.Ellipsoid (ReadsEllipsoid class.Ellipsoid) (λ e. item_ellipsoid (norm_ellipsoid level e))
ellipsoid-form law level c =
    let d = class.Ellipsoid in
    by-slots refl (λ item keyword x o reads. spelled-by o o.written
    (one-in o 0 (text-form level d) refl refl x.name reads.name
    (two-in law o (λ raw h. h) (front_in o 1) (front_in o 2) refl (only-in o 1 refl refl) (only-in o 2 refl refl)
    x.semi_major_axis x.inverse_flattening reads.semi_major_axis reads.inverse_flattening
    (optional-in o 3 (unit-form law level d class.LengthUnit kinds.Length refl (in-length kinds.Length) (λ raw h. h))
    refl refl x.unit reads.unit
    (idents-in o 4 refl x.identifiers reads.identifiers refl)
    ∙ opt-length (ReadsUnit class.LengthUnit) level (those d class.LengthUnit (arguments item)) x.unit o.own reads.unit _))))

-- ---- prime meridians

-- zero has one normal value
zero-is : (v : Value) → IsNormal v → is_zero v ≡ true → v ≡ zero
zero-is v normal e = grind (arith, normal, e)

normal-read : (found : List Item) (v : Value) → ReadsFirst ReadsNumber found v → IsNormal v
normal-read found v reads = grind (arith, reads)

abbrev pub ZeroPlain : Type 0
ZeroPlain = plain zero ≡ codes "0"

-- a unit that isn't there at longitude 0
opt-angle : (level : Level) (is_at_zero : Bool) (found : List Item) (unit : Option UnitParts) →
    (is_at_zero ≡ true → found ≡ []) →
    ReadsOptional (ReadsUnit class.AngleUnit) found unit → (rest : Siblings) →
    opt (λ u. item_unit (norm_unit level kinds.Angle u)) unit rest ≡ opt item_unit
    (if is_at_zero then None else norm_units level kinds.Angle unit) rest
opt-angle level is_at_zero found unit none reads rest = grind (arith, none, reads)

pub meridian-form : PlainIsOne → ZeroPlain → (level : Level) (c : Class) →
    Form level c class.PrimeMeridian (ReadsMeridian class.PrimeMeridian) (λ m. item_meridian (norm_given level m))
meridian-form law zero_plain level c =
    let d = class.PrimeMeridian in
    let longitude-form = number-form law level d (λ raw h. h) in
    by-slots refl (λ item keyword x o reads. spelled-by o o.written
    (one-in o 0 (text-form level d) refl refl x.name reads.name
    (one-in o 1 longitude-form refl refl x.longitude reads.longitude
    (optional-in o 2 (unit-form law level d class.AngleUnit kinds.Angle refl (in-angle kinds.Angle) (λ raw h. h)) refl
    refl x.unit reads.unit
    (idents-in o 3 refl x.identifiers reads.identifiers refl)
    ∙ opt-angle level (is_zero x.longitude) (those d class.AngleUnit (arguments item)) x.unit
    (λ e. o.own (raws-in o 1 longitude-form refl refl refl x.longitude reads.longitude
    ∙ ap (λ (bytes : List ℕ). bytes ∷ []) (ap plain (zero-is x.longitude (normal-read _ x.longitude reads.longitude) e) ∙ zero_plain)))
    reads.unit _))))

-- ---- normal reference frames are the one form of their values

pub none-read : {V : Type 0} (R : Item → V → Type 0) (found : List Item) → found ≡ [] → (value : Option V) →
    ReadsOptional R found value → value ≡ None
none-read R found e value reads = grind (arith, e, reads)

-- ---- reference frames

pub geodetic_datum-form : PlainIsOne → (level : Level) (c : Class) →
    Form level c class.GeodeticFrame (Checked class.GeodeticFrame (ReadsDatum class.GeodeticFrame))
    (λ d. item_datum (codes "DATUM") (norm_datum level d))
unfolding Own
geodetic_datum-form law level c =
    let d = class.GeodeticFrame in
    unbroken-by-slots refl (λ item keyword x o own inner reads. spelled-by o o.written
    (one-in o 0 (text-form level d) refl refl x.name reads.name
    (mapped-in o item_ellipsoid (norm_ellipsoid level) (ellipsoid-form law level d) 1 refl refl x.ellipsoid
    reads.ellipsoid
    (anchors-in law o o.own 2 (front-in o 2).inside refl refl own x.anchor x.anchor_epoch reads.anchor reads.anchor_epoch
    (idents-in o 3 refl x.identifiers reads.identifiers refl)))))

pub vertical_datum-form : PlainIsOne → (level : Level) (c : Class) →
    Form level c class.VerticalFrame (Checked class.VerticalFrame (ReadsDatum class.VerticalFrame))
    (λ d. item_datum (codes "VDATUM") (norm_datum level d))
unfolding Own
vertical_datum-form law level c =
    let d = class.VerticalFrame in
    unbroken-by-slots refl (λ item keyword x o own inner reads. spelled-by o o.written
    (one-in o 0 (text-form level d) refl refl x.name reads.name
    (missing-in o item_ellipsoid (norm_ellipsoid level) (ellipsoid-form law level d) refl x.ellipsoid reads.ellipsoid
    (anchors-in law o o.own 1 (front-in o 1).inside refl refl own x.anchor x.anchor_epoch reads.anchor reads.anchor_epoch
    (idents-in o 2 refl x.identifiers reads.identifiers refl)))))

-- ---- normal boxes, extents and usages are the one form of their values

pub box-form : PlainIsOne → (level : Level) (c : Class) →
    Form level c class.BoundingBox (ReadsBox class.BoundingBox) item_box
box-form law level c =
    by-slots refl (λ item keyword x o reads. spelled-by o o.written
    (four-in law o (λ raw h. h) (front_in o 0) (front_in o 1) (front_in o 2) (front_in o 3) refl
    (only-in o 0 refl refl) (only-in o 1 refl refl)
    (only-in o 2 refl refl)
    (only-in o 3 refl refl) x.south x.west x.north x.east reads.south reads.west reads.north reads.east refl))

pub extent-form : PlainIsOne → (level : Level) (c : Class) →
    Form level c class.VerticalExtent (ReadsExtent class.VerticalExtent) (λ e. item_extent (norm_extent level e))
extent-form law level c =
    let d = class.VerticalExtent in
    by-slots refl (λ item keyword x o reads. spelled-by o o.written
    (two-in law o (λ raw h. h) (front_in o 0) (front_in o 1) refl (only-in o 0 refl refl) (only-in o 1 refl refl)
    x.minimum x.maximum reads.minimum reads.maximum
    (optional-in o 2 (unit-form law level d class.LengthUnit kinds.Length refl (in-length kinds.Length) (λ raw h. h))
    refl refl x.unit reads.unit refl
    ∙ opt-length (ReadsUnit class.LengthUnit) level (those d class.LengthUnit (arguments item)) x.unit o.own reads.unit
    End)))

full-usage-form : PlainIsOne → (c : Class) →
    Form levels.Full c class.Usage (ReadsUsage class.Usage) (λ u. item_usage (norm_usage u))
full-usage-form law c =
    let level = levels.Full in
    let d = class.Usage in
    by-slots refl (λ item keyword x o reads. spelled-by o o.written
    (optional-in o 0 (text-node-form level d class.Scope (codes "SCOPE") refl (λ bytes h. h)) refl refl x.scope
    reads.scope
    (optional-in o 1 (text-node-form level d class.Area (codes "AREA") refl (λ bytes h. h)) refl refl x.area reads.area
    (optional-in o 2 (box-form law level d) refl refl x.bbox reads.bbox
    (mapped-in o item_extent (norm_extent level) (extent-form law level d) 3 refl refl x.extent reads.extent refl)))))

-- with all that it holds, at each level
pub usage-form : PlainIsOne → (level : Level) (c : Class) →
    Form level c class.Usage (ReadsUsage class.Usage) (λ u. item_usage (norm_usage u))
usage-form law level c item x good reads =
    full-usage-form law c item x
    (record { shaped = good.shaped; normal = normal-in level c class.Usage item good.normal }) reads
