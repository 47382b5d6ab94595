-- Normal compound CRSs, and normal CRSs of any kind, are the one form of their values.
use Rattle.std.proofs.Common.{◌≡◌, ℕ, inl, List, refl, ◌∙◌, ap, ap₂, subst}
use Rattle.crs_text.specs.inner.Prelude.{Item, End, More, RefusedAt, arguments}
use Rattle.crs_shape.specs.declared.class.Class.{Class}
use Rattle.crs_shape.specs.declared.class.Class.TheVariants as class
use Rattle.crs_shape.specs.inner.Prelude.{SlotParts}
use Rattle.crs_value.specs.inner.Prelude.{BreaksAmong, Own, those, ReadsElse, ReadsFirst, ReadsAsHorizontal, ReadsCompound, ReadsCrs, ReadsProjected, ReadsVertical}
use Rattle.crs_value.specs.declared.values.compound.Horizontal.{Horizontal}
use Rattle.crs_value.specs.declared.values.compound.Horizontal.TheVariants as horizontal
use Rattle.crs_value.specs.declared.values.crs.Crs.TheVariants as crs
use Rattle.crs_value.specs.declared.values.level.Level.{Level}
use Rattle.crs_normal.proofs.WithoutPlaces.{without_places}
use Rattle.crs_normal.specs.inner.SpelledCrs.{item_compound, item_crs, item_horizontal, norm_compound, norm_crs, norm_horizontal}
use Rattle.crs_normal.specs.inner.LowerLaws.{LowerLaws}
use Rattle.crs_normal.proofs.normal.CheckedLemmas.{Checked, IsUnbroken, by-class, first-checked, first-or-none, unbroken-by-slots, unbroken-in}
use Rattle.crs_normal.proofs.normal.FormLemmas.{Form, IsGood, Looked, Opened, front_in, good-in, one-in, only-in, spelled-by}
use Rattle.crs_normal.proofs.normal.SingleLemmas.{geodetic-form, geographic-form, projected-form, vertical-form}
use Rattle.crs_normal.proofs.normal.LeafLemmas.{text-form}
use Rattle.crs_normal.proofs.members.MemberLemmas.{Alone}
use Rattle.crs_normal.proofs.normal.TailLemmas.{plain_tail-in}
use Rattle.crs_normal.proofs.read.ViewLemmas.{onto, without_places_onto}

-- ---- the horizontal part

-- an item of a class, where it is of this one
as-one : {V : Type 0} {level : Level} {parent : Class} (c d : Class) (R : Class → Item → V → Type 0)
    {spell : V → Item} → Form level parent d (Checked d (R d)) spell → (item : Item) (value : V) →
    IsGood level parent c item → Checked c (λ i v. (c ≡ d) × R c i v) item value → without_places item ≡ spell value
as-one {level = level} {parent = parent} c d R form item value good (free, (same, reads)) =
    form item value (subst (λ (x : Class). IsGood level parent x item) same good)
    (subst (λ (x : Class). Checked x (R x) item value) same (free, reads))

horizontal-form : LowerLaws → (level : Level) (parent c : Class) →
    Form level parent c (Checked c (ReadsAsHorizontal c)) (λ x. item_horizontal (norm_horizontal level x))
horizontal-form laws level parent class.GeodeticCrs item (horizontal.Geodetic g) good reads =
    geodetic-form laws level parent item g good (reads.0, reads.1.1)
horizontal-form laws level parent class.GeographicCrs item (horizontal.Geodetic g) good reads =
    geographic-form laws level parent item g good (reads.0, reads.1.1)
horizontal-form laws level parent other item (horizontal.Geodetic g) good reads = absurd reads.1.0
horizontal-form laws level parent c item (horizontal.Projected p) good reads =
    as-one c class.ProjectedCrs ReadsProjected (projected-form laws level parent) item p good reads

-- the one of three classes
horizontal-in : LowerLaws → {level : Level} {c : Class} {slots : List SlotParts} {item : Item} {keyword : List ℕ}
    (o : Opened level c slots item keyword) (front : List Item) (p : Alone front) →
    Looked o class.GeodeticCrs (those c class.GeodeticCrs (onto front End)) →
    Looked o class.GeographicCrs (those c class.GeographicCrs (onto front End)) →
    Looked o class.ProjectedCrs (those c class.ProjectedCrs (onto front End)) →
    ((fault : RefusedAt) → ¬ (BreaksAmong c (arguments item) fault)) → (value : Horizontal) →
    ReadsElse (ReadsAsHorizontal class.GeodeticCrs) (those c class.GeodeticCrs (arguments item))
    (ReadsElse (ReadsAsHorizontal class.GeographicCrs) (those c class.GeographicCrs (arguments item))
    (ReadsFirst (ReadsAsHorizontal class.ProjectedCrs) (those c class.ProjectedCrs (arguments item)))) value →
    without_places p.0 ≡ item_horizontal (norm_horizontal level value)
horizontal-in laws {level = level} {c = c} {item = item} o front p geodetic geographic projected free value reads =
    one-of class.GeodeticCrs (ReadsElse (ReadsAsHorizontal class.GeographicCrs) (those c class.GeographicCrs (arguments item))
    last) geodetic reads (λ others.
    one-of class.GeographicCrs last geographic others (λ other.
    one-of class.ProjectedCrs (λ v. ⊥) projected
    (first-or-none (ReadsAsHorizontal class.ProjectedCrs) (those c class.ProjectedCrs (arguments item)) value other)
    (λ none. absurd none)))
  where
    last : Horizontal → Type 0
    last = ReadsFirst (ReadsAsHorizontal class.ProjectedCrs) (those c class.ProjectedCrs (arguments item))

    one-of : (d : Class) (otherwise : Horizontal → Type 0) → Looked o d (those c d (onto front End)) →
        ReadsElse (ReadsAsHorizontal d) (those c d (arguments item)) otherwise value →
        (otherwise value → without_places p.0 ≡ item_horizontal (norm_horizontal level value)) →
        without_places p.0 ≡ item_horizontal (norm_horizontal level value)
    one-of d otherwise same read other =
        by-class o (ReadsAsHorizontal d) otherwise d p same read
        (λ has read. horizontal-form laws level c d p.0 value (has (IsGood level c d) (good-in o d))
        (has (IsUnbroken d) (unbroken-in o d free), read)) (λ not. other)

-- ---- compound CRSs

pub compound-form : LowerLaws → (level : Level) (c : Class) →
    Form level c class.CompoundCrs (Checked class.CompoundCrs (ReadsCompound class.CompoundCrs))
    (λ p. item_compound (norm_compound level p))
unfolding Own
compound-form laws level c =
    let d = class.CompoundCrs in
    unbroken-by-slots refl (λ item keyword x o own inner reads.
    let p = only-in o 1 refl refl in
    let behind = without_places_onto (front_in o 2) (without_places_onto (front_in o 3) End) in
    spelled-by o o.written
    (one-in o 0 (text-form level d) refl refl x.name reads.name
    (ap (λ xs. without_places_onto xs behind) p.1
    ∙ ap₂ More (horizontal-in laws o (front_in o 1) p refl refl refl inner x.horizontal reads.horizontal)
    (one-in o 2 (vertical-form laws level d) refl refl x.vertical
    (first-checked class.VerticalCrs (ReadsVertical class.VerticalCrs) _ x.vertical (unbroken-in o class.VerticalCrs inner)
    reads.vertical)
    (plain_tail-in o 3 laws.plain_one o.own (λ fault b. own fault (inl b)) refl refl
    (refl, (refl, (refl, (refl, (refl, (refl, (refl, tt))))))) x.tail reads.tail)))))

-- ---- CRSs of any kind

pub crs-form : LowerLaws → (c : Class) (level : Level) (parent : Class) →
    Form level parent c (Checked c (ReadsCrs c)) (λ x. item_crs (norm_crs level x))
crs-form laws c level parent item (crs.Geodetic x) good reads =
    horizontal-form laws level parent c item (horizontal.Geodetic x) good reads
crs-form laws c level parent item (crs.Projected x) good reads =
    as-one c class.ProjectedCrs ReadsProjected (projected-form laws level parent) item x good reads
crs-form laws c level parent item (crs.Vertical x) good reads =
    as-one c class.VerticalCrs ReadsVertical (vertical-form laws level parent) item x good reads
crs-form laws c level parent item (crs.Compound x) good reads =
    as-one c class.CompoundCrs ReadsCompound (compound-form laws level parent) item x good reads
