-- Uniqueness: an item reads as at most one value, and of faults one is the first.
use Rattle.std.proofs.Common.{◌≡◌, ℕ, drop, ⊎_elim, Option, Some, None, List, [], ◌∷◌, refl, sym, ◌∙◌, ap, IsSome}
use Rattle.crs_text.specs.inner.Prelude.{Item, arguments, raw_of, skip, RefusedAt}
use Rattle.crs_shape.specs.declared.class.Class.{Class}
use Rattle.crs_shape.specs.declared.class.Class.TheVariants as class
use Rattle.crs_value.specs.Checks.{IsLeast}
use Rattle.crs_value.specs.Reading.{those, ReadsFirst, ReadsOptional, ReadsEach, ReadsText, ReadsTextOf, single_of, ReadsIdent, ReadsIds, ReadsNamed}
use Rattle.crs_value.specs.Reads.{ReadsNumber, ReadsType, ReadsDirection, ReadsNumberOf, ReadsNumberAt, ReadsUnit, ReadsAxisMeridian, ReadsAxis, ReadsHead, ReadsSystem, ReadsEllipsoid, ReadsMeridian, ReadsDatum, ReadsEnsemble, ReadsBox, ReadsExtent, ReadsUsage, LacksUsage, ReadsBare, ReadsTail}
use Rattle.crs_value.specs.Values.{SystemParts, UsageParts, SaysSome}
use Rattle.crs_value.proofs.checked.CheckLemmas.{first-one, DenotesOne, number-one}
use Rattle.crs_value.proofs.checked.LeastLemmas.{first-both}
use Rattle.crs_value.proofs.one.WordLemmas.{direction-one, type-one, kind-one}

-- each item reads as one value at most
abbrev pub IsOne : {V : Type 0} → (Item → V → Type 0) → Type 0
IsOne {V = V} R = (item : Item) (a b : V) → R item a → R item b → a ≡ b

pub one-optional : {V : Type 0} (R : Item → V → Type 0) → IsOne R → (items : List Item) (a b : Option V) → ReadsOptional R items a → ReadsOptional R items b → a ≡ b
one-optional R one [] None None p q = refl
one-optional R one [] None (Some b) p q = absurd q
one-optional R one [] (Some a) b p q = absurd p
one-optional R one (i ∷ items) None b p q = absurd p
one-optional R one (i ∷ items) (Some a) None p q = absurd q
one-optional R one (i ∷ items) (Some a) (Some b) p q = ap (λ x. Some x) (one i a b p q)

pub one-each : {V : Type 0} (R : Item → V → Type 0) → IsOne R → (items : List Item) (a b : List V) → ReadsEach R items a → ReadsEach R items b → a ≡ b
one-each R one [] [] [] p q = refl
one-each R one [] [] (b ∷ bs) p q = absurd q
one-each R one [] (a ∷ as_) b p q = absurd p
one-each R one (i ∷ items) [] b p q = absurd p
one-each R one (i ∷ items) (a ∷ as_) [] p q = absurd q
one-each R one (i ∷ items) (a ∷ as_) (b ∷ bs) p q =
    let h : a ≡ b = one i a b p.0 q.0 in
    let t : as_ ≡ bs = one-each R one items as_ bs p.1 q.1 in
    cc

text-one : IsOne ReadsText
text-one item a b p q = sym p ∙ q

pub text-of-one : (c : Class) → IsOne (ReadsTextOf c)
text-of-one c item a b p q = first-one ReadsText text-one (those c class.Text (arguments item)) a b p q

pub number-of-one : DenotesOne → (c : Class) → IsOne (ReadsNumberOf c)
number-of-one law c item a b p q = first-one ReadsNumber (number-one law) (those c class.Number (arguments item)) a b p q

number-at-one : DenotesOne → (k : ℕ) (c : Class) → IsOne (ReadsNumberAt k c)
number-at-one law k c item a b p q = first-one ReadsNumber (number-one law) (drop k (those c class.Number (arguments item))) a b p q

pub ident-one : (c : Class) → IsOne (ReadsIdent c)
ident-one c item a b p q = λ i. record {
  authority = text-of-one c item a.authority b.authority p.authority q.authority i;
  code = first-one ReadsText text-one (single_of (skip 1 (arguments item))) a.code b.code p.code q.code i;
  version = one-optional ReadsText text-one (single_of (skip 2 (arguments item))) a.version b.version p.version q.version i;
  citation = one-optional (ReadsTextOf class.Citation) (text-of-one class.Citation) (those c class.Citation (arguments item)) a.citation b.citation p.citation q.citation i;
  uri = one-optional (ReadsTextOf class.Uri) (text-of-one class.Uri) (those c class.Uri (arguments item)) a.uri b.uri p.uri q.uri i;
}

pub identifiers-one : (c : Class) → IsOne (ReadsIds c)
identifiers-one c item a b p q = one-each (ReadsIdent class.Identifier) (ident-one class.Identifier) (those c class.Identifier (arguments item)) a b p q

pub unit-one : DenotesOne → (c : Class) → IsOne (ReadsUnit c)
unit-one law c item a b p q = λ i. record {
  kind = kind-one (raw_of item) a.kind b.kind p.kind q.kind i;
  name = text-of-one c item a.name b.name p.name q.name i;
  factor = number-of-one law c item a.factor b.factor p.factor q.factor i;
  identifiers = identifiers-one c item a.identifiers b.identifiers p.identifiers q.identifiers i;
}

pub axis_meridian-one : DenotesOne → (c : Class) → IsOne (ReadsAxisMeridian c)
axis_meridian-one law c item a b p q = λ i. record {
  longitude = number-of-one law c item a.longitude b.longitude p.longitude q.longitude i;
  unit = first-one (ReadsUnit class.AngleUnit) (unit-one law class.AngleUnit) (those c class.AngleUnit (arguments item)) a.unit b.unit p.unit q.unit i;
}

pub axis-one : DenotesOne → (c : Class) → IsOne (ReadsAxis c)
axis-one law c item a b p q = λ i. record {
  name = text-of-one c item a.name b.name p.name q.name i;
  direction = first-one ReadsDirection (λ i. direction-one (raw_of i)) (those c class.Word (arguments item)) a.direction b.direction p.direction q.direction i;
  meridian = one-optional (ReadsAxisMeridian class.AxisMeridian) (axis_meridian-one law class.AxisMeridian) (those c class.AxisMeridian (arguments item)) a.meridian b.meridian p.meridian q.meridian i;
  order = one-optional (ReadsNumberOf class.Order) (number-of-one law class.Order) (those c class.Order (arguments item)) a.order b.order p.order q.order i;
  unit = one-optional (ReadsUnit class.AxisUnit) (unit-one law class.AxisUnit) (those c class.AxisUnit (arguments item)) a.unit b.unit p.unit q.unit i;
  identifiers = identifiers-one c item a.identifiers b.identifiers p.identifiers q.identifiers i;
}

pub ellipsoid-one : DenotesOne → (c : Class) → IsOne (ReadsEllipsoid c)
ellipsoid-one law c item a b p q = λ i. record {
  name = text-of-one c item a.name b.name p.name q.name i;
  semi_major_axis = number-at-one law 0 c item a.semi_major_axis b.semi_major_axis p.semi_major_axis q.semi_major_axis i;
  inverse_flattening = number-at-one law 1 c item a.inverse_flattening b.inverse_flattening p.inverse_flattening q.inverse_flattening i;
  unit = one-optional (ReadsUnit class.LengthUnit) (unit-one law class.LengthUnit) (those c class.LengthUnit (arguments item)) a.unit b.unit p.unit q.unit i;
  identifiers = identifiers-one c item a.identifiers b.identifiers p.identifiers q.identifiers i;
}

pub meridian-one : DenotesOne → (c : Class) → IsOne (ReadsMeridian c)
meridian-one law c item a b p q = λ i. record {
  name = text-of-one c item a.name b.name p.name q.name i;
  longitude = number-of-one law c item a.longitude b.longitude p.longitude q.longitude i;
  unit = one-optional (ReadsUnit class.AngleUnit) (unit-one law class.AngleUnit) (those c class.AngleUnit (arguments item)) a.unit b.unit p.unit q.unit i;
  identifiers = identifiers-one c item a.identifiers b.identifiers p.identifiers q.identifiers i;
}

pub named-one : (c : Class) → IsOne (ReadsNamed c)
named-one c item a b p q = λ i. record {
  name = text-of-one c item a.name b.name p.name q.name i;
  identifiers = identifiers-one c item a.identifiers b.identifiers p.identifiers q.identifiers i;
}

pub datum-one : DenotesOne → (c : Class) → IsOne (ReadsDatum c)
datum-one law c item a b p q = λ i. record {
  name = text-of-one c item a.name b.name p.name q.name i;
  ellipsoid = one-optional (ReadsEllipsoid class.Ellipsoid) (ellipsoid-one law class.Ellipsoid) (those c class.Ellipsoid (arguments item)) a.ellipsoid b.ellipsoid p.ellipsoid q.ellipsoid i;
  anchor = one-optional (ReadsTextOf class.Anchor) (text-of-one class.Anchor) (those c class.Anchor (arguments item)) a.anchor b.anchor p.anchor q.anchor i;
  anchor_epoch = one-optional (ReadsNumberOf class.AnchorEpoch) (number-of-one law class.AnchorEpoch) (those c class.AnchorEpoch (arguments item)) a.anchor_epoch b.anchor_epoch p.anchor_epoch q.anchor_epoch i;
  identifiers = identifiers-one c item a.identifiers b.identifiers p.identifiers q.identifiers i;
}

pub ensemble-one : DenotesOne → (c : Class) → IsOne (ReadsEnsemble c)
ensemble-one law c item a b p q = λ i. record {
  name = text-of-one c item a.name b.name p.name q.name i;
  members = one-each (ReadsNamed class.Member) (named-one class.Member) (those c class.Member (arguments item)) a.members b.members p.members q.members i;
  ellipsoid = one-optional (ReadsEllipsoid class.Ellipsoid) (ellipsoid-one law class.Ellipsoid) (those c class.Ellipsoid (arguments item)) a.ellipsoid b.ellipsoid p.ellipsoid q.ellipsoid i;
  accuracy = first-one (ReadsNumberOf class.EnsembleAccuracy) (number-of-one law class.EnsembleAccuracy) (those c class.EnsembleAccuracy (arguments item)) a.accuracy b.accuracy p.accuracy q.accuracy i;
  identifiers = identifiers-one c item a.identifiers b.identifiers p.identifiers q.identifiers i;
}

pub box-one : DenotesOne → (c : Class) → IsOne (ReadsBox c)
box-one law c item a b p q = λ i. record {
  south = number-at-one law 0 c item a.south b.south p.south q.south i;
  west = number-at-one law 1 c item a.west b.west p.west q.west i;
  north = number-at-one law 2 c item a.north b.north p.north q.north i;
  east = number-at-one law 3 c item a.east b.east p.east q.east i;
}

pub extent-one : DenotesOne → (c : Class) → IsOne (ReadsExtent c)
extent-one law c item a b p q = λ i. record {
  minimum = number-at-one law 0 c item a.minimum b.minimum p.minimum q.minimum i;
  maximum = number-at-one law 1 c item a.maximum b.maximum p.maximum q.maximum i;
  unit = one-optional (ReadsUnit class.LengthUnit) (unit-one law class.LengthUnit) (those c class.LengthUnit (arguments item)) a.unit b.unit p.unit q.unit i;
}

none-some : {V : Type 0} (R : Item → V → Type 0) (items : List Item) (o : Option V) → items ≡ [] →
    ReadsOptional R items o → ¬ (IsSome o)
none-some R [] None e reads h = cc
none-some R [] (Some value) e reads h = reads
none-some R (item ∷ items) o e reads h = cc

pub usage-one : DenotesOne → (c : Class) → IsOne (ReadsUsage c)
usage-one law c item a b p q = λ i. record {
  scope = one-optional (ReadsTextOf class.Scope) (text-of-one class.Scope) (those c class.Scope (arguments item)) a.scope b.scope p.scope q.scope i;
  area = one-optional (ReadsTextOf class.Area) (text-of-one class.Area) (those c class.Area (arguments item)) a.area b.area p.area q.area i;
  bbox = one-optional (ReadsBox class.BoundingBox) (box-one law class.BoundingBox) (those c class.BoundingBox (arguments item)) a.bbox b.bbox p.bbox q.bbox i;
  extent = one-optional (ReadsExtent class.VerticalExtent) (extent-one law class.VerticalExtent) (those c class.VerticalExtent (arguments item)) a.extent b.extent p.extent q.extent i;
}

-- a usage says nothing where none of its parts is there
lacks-says : (c : Class) (item : Item) (u : UsageParts) → LacksUsage c item → ReadsUsage c item u → ¬ (SaysSome u)
lacks-says c item u lacks reads =
    ⊎_elim (none-some (ReadsTextOf class.Scope) _ u.scope lacks.scope reads.scope)
    (⊎_elim (none-some (ReadsTextOf class.Area) _ u.area lacks.area reads.area)
    (⊎_elim (none-some (ReadsBox class.BoundingBox) _ u.bbox lacks.bbox reads.bbox) (none-some (ReadsExtent class.VerticalExtent) _ u.extent lacks.extent reads.extent)))

bare-one : DenotesOne → (c : Class) → IsOne (ReadsBare c)
bare-one law c item None None p q = refl
bare-one law c item None (Some u) p q = absurd (lacks-says c item u p q.0 q.1)
bare-one law c item (Some u) None p q = absurd (lacks-says c item u q p.0 p.1)
bare-one law c item (Some u) (Some v) p q = ap (λ x. Some x) (usage-one law c item u v p.0 q.0)

pub tail-one : DenotesOne → (c : Class) → IsOne (ReadsTail c)
tail-one law c item a b p q = λ i. record {
  usages = one-each (ReadsUsage class.Usage) (usage-one law class.Usage) (those c class.Usage (arguments item)) a.usages b.usages p.usages q.usages i;
  bare_parts = bare-one law c item a.bare_parts b.bare_parts p.bare_parts q.bare_parts i;
  identifiers = identifiers-one c item a.identifiers b.identifiers p.identifiers q.identifiers i;
  remark = one-optional (ReadsTextOf class.Remark) (text-of-one class.Remark) (those c class.Remark (arguments item)) a.remark b.remark p.remark q.remark i;
}

-- a system's own node gives three of its fields
head-one : DenotesOne → (items : List Item) (a b : SystemParts) → ReadsFirst ReadsHead items a → ReadsFirst ReadsHead items b →
    (a.system_type ≡ b.system_type) × ((a.dimension ≡ b.dimension) × (a.identifiers ≡ b.identifiers))
head-one law [] a b p q = absurd p
head-one law (i ∷ items) a b p q = (
  first-one ReadsType (λ i. type-one (raw_of i)) (those class.CoordinateSystem class.Word (arguments i)) a.system_type b.system_type p.system_type q.system_type,
  (
    number-of-one law class.CoordinateSystem i a.dimension b.dimension p.dimension q.dimension,
    identifiers-one class.CoordinateSystem i a.identifiers b.identifiers p.identifiers q.identifiers,
  ),
)

pub system-one : DenotesOne → (c : Class) → IsOne (ReadsSystem c)
system-one law c item a b p q =
    let h = head-one law (those c class.CoordinateSystem (arguments item)) a b p.head q.head in
    λ i. record {
      system_type = h.0 i;
      dimension = h.1.0 i;
      identifiers = h.1.1 i;
      axes = one-each (ReadsAxis class.Axis) (axis-one law class.Axis) (those c class.Axis (arguments item)) a.axes b.axes p.axes q.axes i;
      unit = one-optional (ReadsUnit class.AxisUnit) (unit-one law class.AxisUnit) (those c class.AxisUnit (arguments item)) a.unit b.unit p.unit q.unit i;
    }

-- of some faults one is the first
pub least-one-only : (Fault : RefusedAt → Type 0) (a b : RefusedAt) → IsLeast Fault (Some a) → IsLeast Fault (Some b) → a ≡ b
least-one-only Fault a b p q = first-both a b (p.1 b q.0) (q.1 a p.0)
