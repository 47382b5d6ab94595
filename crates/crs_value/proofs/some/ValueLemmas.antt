-- What an item says, where it is sound and its tokens are well formed: there is a value.
use Rattle.std.proofs.Common.{◌≡◌, ℕ, inl, inr, ⊎_elim, drop, Option, Some, None, List, [], ◌∷◌, refl, arith}
use Rattle.crs_decimal.specs.inner.Prelude.{Value}
use Rattle.crs_text.specs.inner.Prelude.{Item, arguments, raw_of, skip}
use Rattle.crs_shape.specs.declared.class.Class.{Class}
use Rattle.crs_shape.specs.declared.class.Class.TheVariants as class
use Rattle.crs_shape.specs.declared.system_type.SystemType.{SystemType}
use Rattle.crs_shape.specs.inner.Prelude.{SpellsWord, unit_word}
use Rattle.crs_value.specs.inner.ReadOnce.{IsSound, IsUnitClass}
use Rattle.crs_value.specs.Reading.{those, ReadsFirst, ReadsOptional, ReadsEach, ReadsElse, ReadsText, ReadsTextOf, single_of, ReadsIdent, ReadsIds, ReadsNamed}
use Rattle.crs_value.specs.inner.Arguments.{Requires}
use Rattle.crs_value.specs.Reads.{ReadsNumber, ReadsType, ReadsDirection, ReadsKind, ReadsNumberOf, ReadsNumberAt, ReadsUnit, ReadsAxisMeridian, ReadsAxis, ReadsHead, ReadsSystem, ReadsEllipsoid, ReadsMeridian, ReadsDatum, ReadsEnsemble, ReadsBox, ReadsExtent, ReadsUsage, ReadsBare, ReadsTail}
use Rattle.crs_value.specs.NamedValues.{IdentParts}
use Rattle.crs_value.specs.Values.{AxisParts, UnitParts, SystemParts, BoxParts, ExtentParts}
use Rattle.crs_value.proofs.found.ArgumentLemmas.{AllSound, SlotsCount, arguments-sound, each-drop, not-none, number-there}
use Rattle.crs_value.proofs.some.DecisionLemmas.{Known, decided-word, decided-kinds, type-known, direction-known}
use Rattle.crs_value.proofs.found.IdentLemmas.{code-there}
use Rattle.crs_value.proofs.sound.KnownWordLemmas.{known-direction, known-type, known-kind}
use Rattle.crs_value.proofs.sound.CrsLemmas.{bare-none}
use Rattle.crs_value.proofs.some.FormedLemmas.{Numbers, number-some}

-- some value reads so
abbrev pub Exists : {V : Type 0} → (V → Type 0) → Type 0
Exists {V = V} R = (value : V) × R value

-- ---- readings of lists

pub first-of : {V : Type 0} (R : Item → V → Type 0) (c : Class) → ((i : Item) → IsSound c i → Exists (R i)) → (items : List Item) → (items ≡ [] → ⊥) → AllSound c items → Exists (ReadsFirst R items)
first-of R c one [] some g = absurd (some refl)
first-of R c one (item ∷ items) some g = one item g.0

optional-of : {V : Type 0} (R : Item → V → Type 0) (c : Class) → ((i : Item) → IsSound c i → Exists (R i)) → (items : List Item) → AllSound c items → Exists (ReadsOptional R items)
optional-of R c one [] g = (None, tt)
optional-of R c one (item ∷ items) g = let h = one item g.0 in (Some h.0, h.1)

each-of : {V : Type 0} (R : Item → V → Type 0) (c : Class) → ((i : Item) → IsSound c i → Exists (R i)) → (items : List Item) → AllSound c items → Exists (ReadsEach R items)
each-of R c one [] g = ([], tt)
each-of R c one (item ∷ items) g =
    let h = one item g.0 in
    let rest = each-of R c one items g.1 in
    (h.0 ∷ rest.0, (h.1, rest.1))

pub else-of : {V : Type 0} (R : Item → V → Type 0) (Other : V → Type 0) (c : Class) → ((i : Item) → IsSound c i → Exists (R i)) → (items : List Item) → AllSound c items →
    (items ≡ [] → Exists Other) → Exists (ReadsElse R items Other)
else-of R Other c one [] g other = other refl
else-of R Other c one (item ∷ items) g other = one item g.0

text-first : (items : List Item) → (items ≡ [] → ⊥) → Exists (ReadsFirst ReadsText items)
text-first [] some = absurd (some refl)
text-first (item ∷ items) some = (raw_of item, refl)

text-optional : (items : List Item) → Exists (ReadsOptional ReadsText items)
text-optional [] = (None, tt)
text-optional (item ∷ items) = (Some (raw_of item), refl)

-- what is read of the parts of a usage is a usage, or there are none
bare-of : (c : Class) (item : Item) (s a : Option (List ℕ)) (b : Option BoxParts) (e : Option ExtentParts) →
    ReadsUsage c item (record { scope = s; area = a; bbox = b; extent = e }) → Exists (ReadsBare c item)
bare-of c item (Some s) a b e reads =
    (Some (record { scope = Some s; area = a; bbox = b; extent = e }), (reads, inl refl))
bare-of c item None (Some a) b e reads =
    (Some (record { scope = None; area = Some a; bbox = b; extent = e }), (reads, inr (inl refl)))
bare-of c item None None (Some b) e reads =
    (Some (record { scope = None; area = None; bbox = Some b; extent = e }), (reads, inr (inr (inl refl))))
bare-of c item None None None (Some e) reads =
    (Some (record { scope = None; area = None; bbox = None; extent = Some e }), (reads, inr (inr (inr refl))))
bare-of c item None None None None reads = (None, bare-none c item reads)

module _ (numbers : Numbers) (slots : SlotsCount) where
  pub first-some : {V : Type 0} (R : Item → V → Type 0) (parent c : Class) (item : Item) → IsSound parent item → Requires parent c 0 → ((i : Item) → IsSound c i → Exists (R i)) →
      Exists (ReadsFirst R (those parent c (arguments item)))
  first-some R parent c item g some one =
      first-of R c one (those parent c (arguments item)) (λ e. not-none slots parent c item g.shaped some e) (arguments-sound parent c item g)

  pub optional-some : {V : Type 0} (R : Item → V → Type 0) (parent c : Class) (item : Item) → IsSound parent item → ((i : Item) → IsSound c i → Exists (R i)) →
      Exists (ReadsOptional R (those parent c (arguments item)))
  optional-some R parent c item g one = optional-of R c one (those parent c (arguments item)) (arguments-sound parent c item g)

  pub each-some : {V : Type 0} (R : Item → V → Type 0) (parent c : Class) (item : Item) → IsSound parent item → ((i : Item) → IsSound c i → Exists (R i)) →
      Exists (ReadsEach R (those parent c (arguments item)))
  each-some R parent c item g one = each-of R c one (those parent c (arguments item)) (arguments-sound parent c item g)

  pub text-some : (c : Class) (item : Item) → IsSound c item → Requires c class.Text 0 → Exists (ReadsTextOf c item)
  text-some c item g some = first-some ReadsText c class.Text item g some (λ i h. (raw_of i, refl))

  value-some : (item : Item) → IsSound class.Number item → Exists (ReadsNumber item)
  value-some item g = number-some numbers item g.shaped g.formed

  pub number-of-some : (c : Class) (item : Item) → IsSound c item → Requires c class.Number 0 → Exists (ReadsNumberOf c item)
  number-of-some c item g some = first-some ReadsNumber c class.Number item g some value-some

  pub number-at-some : (k : ℕ) (c : Class) (item : Item) → IsSound c item → Requires c class.Number k → Exists (ReadsNumberAt k c item)
  number-at-some k c item g some =
      first-of ReadsNumber class.Number value-some (drop k (those c class.Number (arguments item)))
      (λ e. number-there slots item c class.Number item k k g.shaped some (omega arith) e) (each-drop (IsSound class.Number) k (those c class.Number (arguments item)) (arguments-sound c class.Number item g))

  ident-some : (item : Item) → IsSound class.Identifier item → Exists (ReadsIdent class.Identifier item)
  ident-some item g =
      let authority = text-some class.Identifier item g (omega arith) in
      let code = text-first (single_of (skip 1 (arguments item))) (code-there item g.shaped) in
      let version = text-optional (single_of (skip 2 (arguments item))) in
      let citation = optional-some (ReadsTextOf class.Citation) class.Identifier class.Citation item g (λ i h. text-some class.Citation i h (omega arith)) in
      let uri = optional-some (ReadsTextOf class.Uri) class.Identifier class.Uri item g (λ i h. text-some class.Uri i h (omega arith)) in
      (record { authority = authority.0; code = code.0; version = version.0; citation = citation.0; uri = uri.0 }, record { authority = authority.1; code = code.1; version = version.1; citation = citation.1; uri = uri.1 })

  pub identifiers-some : (c : Class) (item : Item) → IsSound c item → Exists (ReadsIds c item)
  identifiers-some c item g = each-some (ReadsIdent class.Identifier) c class.Identifier item g ident-some

  pub named-some : (c : Class) → Requires c class.Text 0 → (item : Item) → IsSound c item → Exists (ReadsNamed c item)
  named-some c named item g =
      let name = text-some c item g named in
      let identifiers = identifiers-some c item g in
      (record { name = name.0; identifiers = identifiers.0 }, record { name = name.1; identifiers = identifiers.1 })

  -- ---- units and systems

  kind-some : (c : Class) → IsUnitClass c → (item : Item) → IsSound c item → Exists (ReadsKind item)
  kind-some c is item g =
      ⊎_elim (λ found. found) (λ fails. absurd (known-kind c item is g.shaped (λ k h. fails (k, h))))
      (decided-kinds (λ k. SpellsWord (raw_of item) (unit_word k)) (λ k. decided-word (raw_of item) (unit_word k)))

  unit-needs : (c : Class) → IsUnitClass c → Requires c class.Text 0 × Requires c class.Number 0
  unit-needs class.LengthUnit is = (omega arith, omega arith)
  unit-needs class.AngleUnit is = (omega arith, omega arith)
  unit-needs class.ScaleUnit is = (omega arith, omega arith)
  unit-needs class.PlainUnit is = (omega arith, omega arith)
  unit-needs class.AxisUnit is = (omega arith, omega arith)
  unit-needs other is = absurd is

  pub unit-some : (c : Class) → IsUnitClass c → (item : Item) → IsSound c item → Exists (ReadsUnit c item)
  unit-some c is item g =
      let kind = kind-some c is item g in
      let name = text-some c item g (unit-needs c is).0 in
      let factor = number-of-some c item g (unit-needs c is).1 in
      let identifiers = identifiers-some c item g in
      (record { kind = kind.0; name = name.0; factor = factor.0; identifiers = identifiers.0 }, record { kind = kind.1; name = name.1; factor = factor.1; identifiers = identifiers.1 })

  axis_meridian-some : (item : Item) → IsSound class.AxisMeridian item → Exists (ReadsAxisMeridian class.AxisMeridian item)
  axis_meridian-some item g =
      let longitude = number-of-some class.AxisMeridian item g (omega arith) in
      let unit = first-some (ReadsUnit class.AngleUnit) class.AxisMeridian class.AngleUnit item g (omega arith) (unit-some class.AngleUnit tt) in
      (record { longitude = longitude.0; unit = unit.0 }, record { longitude = longitude.1; unit = unit.1 })

  -- the first word of an item, where it reads as something
  word-some : {V : Type 0} (R : Item → V → Type 0) (c : Class) (item : Item) → IsSound c item → Requires c class.Word 0 → ((word : Item) → Known (R word)) →
      ((word : Item) (more : List Item) → those c class.Word (arguments item) ≡ word ∷ more → ¬ ((value : V) → ¬ (R word value))) → Exists (ReadsFirst R (those c class.Word (arguments item)))
  word-some {V = V} R c item g some known sure = by (those c class.Word (arguments item)) refl
    where
      by : (items : List Item) → those c class.Word (arguments item) ≡ items → Exists (ReadsFirst R items)
      by [] e = absurd (not-none slots c class.Word item g.shaped some e)
      by (w ∷ more) e = ⊎_elim (λ found. found) (λ none. absurd (sure w more e none)) (known w)

  axis-some : (item : Item) → IsSound class.Axis item → Exists (ReadsAxis class.Axis item)
  axis-some item g =
      let name = text-some class.Axis item g (omega arith) in
      let direction = word-some ReadsDirection class.Axis item g (omega arith) (λ w. direction-known (raw_of w)) (λ w more. known-direction item w more g) in
      let meridian = optional-some (ReadsAxisMeridian class.AxisMeridian) class.Axis class.AxisMeridian item g (axis_meridian-some) in
      let order = optional-some (ReadsNumberOf class.Order) class.Axis class.Order item g (λ i h. number-of-some class.Order i h (omega arith)) in
      let unit = optional-some (ReadsUnit class.AxisUnit) class.Axis class.AxisUnit item g (unit-some class.AxisUnit tt) in
      let identifiers = identifiers-some class.Axis item g in
      (record { name = name.0; direction = direction.0; meridian = meridian.0; order = order.0; unit = unit.0; identifiers = identifiers.0 }, record { name = name.1; direction = direction.1; meridian = meridian.1; order = order.1; unit = unit.1; identifiers = identifiers.1 })

  abbrev made : SystemType → Value → List IdentParts → List AxisParts → Option UnitParts → SystemParts
  made system_type dimension identifiers axes unit = record { system_type = system_type; dimension = dimension; identifiers = identifiers; axes = axes; unit = unit }

  abbrev Heads : List Item → List AxisParts → Option UnitParts → Type 0
  Heads items axes unit = (t : SystemType) × ((d : Value) × ((identifiers : List IdentParts) × ReadsFirst ReadsHead items (made t d identifiers axes unit)))

  head-some : (items : List Item) → (items ≡ [] → ⊥) → AllSound class.CoordinateSystem items → (axes : List AxisParts) (unit : Option UnitParts) → Heads items axes unit
  head-some [] some g axes unit = absurd (some refl)
  head-some (cs ∷ items) some g axes unit =
      let t = word-some ReadsType class.CoordinateSystem cs g.0 (omega arith) (λ w. type-known (raw_of w)) (λ w more. known-type cs w more g.0) in
      let d = number-of-some class.CoordinateSystem cs g.0 (omega arith) in
      let identifiers = identifiers-some class.CoordinateSystem cs g.0 in
      (t.0, (d.0, (identifiers.0, record { system_type = t.1; dimension = d.1; identifiers = identifiers.1 })))

  pub system-some : (c : Class) (item : Item) → IsSound c item → Requires c class.CoordinateSystem 0 → Exists (ReadsSystem c item)
  system-some c item g some =
      let axes = each-some (ReadsAxis class.Axis) c class.Axis item g axis-some in
      let unit = optional-some (ReadsUnit class.AxisUnit) c class.AxisUnit item g (unit-some class.AxisUnit tt) in
      let head =
      head-some (those c class.CoordinateSystem (arguments item)) (λ e. not-none slots c class.CoordinateSystem item g.shaped some e) (arguments-sound c class.CoordinateSystem item g) axes.0
      unit.0 in
      (made head.0 head.1.0 head.1.1.0 axes.0 unit.0, record { head = head.1.1.1; axes = axes.1; unit = unit.1 })

  -- ---- frames

  pub ellipsoid-some : (item : Item) → IsSound class.Ellipsoid item → Exists (ReadsEllipsoid class.Ellipsoid item)
  ellipsoid-some item g =
      let name = text-some class.Ellipsoid item g (omega arith) in
      let semi_major_axis = number-at-some 0 class.Ellipsoid item g (omega arith) in
      let inverse_flattening = number-at-some 1 class.Ellipsoid item g (omega arith) in
      let unit = optional-some (ReadsUnit class.LengthUnit) class.Ellipsoid class.LengthUnit item g (unit-some class.LengthUnit tt) in
      let identifiers = identifiers-some class.Ellipsoid item g in
      (record { name = name.0; semi_major_axis = semi_major_axis.0; inverse_flattening = inverse_flattening.0; unit = unit.0; identifiers = identifiers.0 }, record { name = name.1; semi_major_axis = semi_major_axis.1; inverse_flattening = inverse_flattening.1; unit = unit.1; identifiers = identifiers.1 })

  pub meridian-some : (item : Item) → IsSound class.PrimeMeridian item → Exists (ReadsMeridian class.PrimeMeridian item)
  meridian-some item g =
      let name = text-some class.PrimeMeridian item g (omega arith) in
      let longitude = number-of-some class.PrimeMeridian item g (omega arith) in
      let unit = optional-some (ReadsUnit class.AngleUnit) class.PrimeMeridian class.AngleUnit item g (unit-some class.AngleUnit tt) in
      let identifiers = identifiers-some class.PrimeMeridian item g in
      (record { name = name.0; longitude = longitude.0; unit = unit.0; identifiers = identifiers.0 }, record { name = name.1; longitude = longitude.1; unit = unit.1; identifiers = identifiers.1 })

  pub datum-some : (c : Class) → Requires c class.Text 0 → (item : Item) → IsSound c item → Exists (ReadsDatum c item)
  datum-some c named item g =
      let name = text-some c item g named in
      let ellipsoid = optional-some (ReadsEllipsoid class.Ellipsoid) c class.Ellipsoid item g (ellipsoid-some) in
      let anchor = optional-some (ReadsTextOf class.Anchor) c class.Anchor item g (λ i h. text-some class.Anchor i h (omega arith)) in
      let anchor_epoch = optional-some (ReadsNumberOf class.AnchorEpoch) c class.AnchorEpoch item g (λ i h. number-of-some class.AnchorEpoch i h (omega arith)) in
      let identifiers = identifiers-some c item g in
      (record { name = name.0; ellipsoid = ellipsoid.0; anchor = anchor.0; anchor_epoch = anchor_epoch.0; identifiers = identifiers.0 }, record { name = name.1; ellipsoid = ellipsoid.1; anchor = anchor.1; anchor_epoch = anchor_epoch.1; identifiers = identifiers.1 })

  pub ensemble-some : (c : Class) → Requires c class.Text 0 → Requires c class.EnsembleAccuracy 0 → (item : Item) → IsSound c item → Exists (ReadsEnsemble c item)
  ensemble-some c named exact item g =
      let name = text-some c item g named in
      let members = each-some (ReadsNamed class.Member) c class.Member item g (named-some class.Member (omega arith)) in
      let ellipsoid = optional-some (ReadsEllipsoid class.Ellipsoid) c class.Ellipsoid item g (ellipsoid-some) in
      let accuracy = first-some (ReadsNumberOf class.EnsembleAccuracy) c class.EnsembleAccuracy item g exact (λ i h. number-of-some class.EnsembleAccuracy i h (omega arith)) in
      let identifiers = identifiers-some c item g in
      (record { name = name.0; members = members.0; ellipsoid = ellipsoid.0; accuracy = accuracy.0; identifiers = identifiers.0 }, record { name = name.1; members = members.1; ellipsoid = ellipsoid.1; accuracy = accuracy.1; identifiers = identifiers.1 })

  -- ---- tails

  box-some : (item : Item) → IsSound class.BoundingBox item → Exists (ReadsBox class.BoundingBox item)
  box-some item g =
      let south = number-at-some 0 class.BoundingBox item g (omega arith) in
      let west = number-at-some 1 class.BoundingBox item g (omega arith) in
      let north = number-at-some 2 class.BoundingBox item g (omega arith) in
      let east = number-at-some 3 class.BoundingBox item g (omega arith) in
      (record { south = south.0; west = west.0; north = north.0; east = east.0 }, record { south = south.1; west = west.1; north = north.1; east = east.1 })

  extent-some : (item : Item) → IsSound class.VerticalExtent item → Exists (ReadsExtent class.VerticalExtent item)
  extent-some item g =
      let minimum = number-at-some 0 class.VerticalExtent item g (omega arith) in
      let maximum = number-at-some 1 class.VerticalExtent item g (omega arith) in
      let unit = optional-some (ReadsUnit class.LengthUnit) class.VerticalExtent class.LengthUnit item g (unit-some class.LengthUnit tt) in
      (record { minimum = minimum.0; maximum = maximum.0; unit = unit.0 }, record { minimum = minimum.1; maximum = maximum.1; unit = unit.1 })

  usage-some : (c : Class) (item : Item) → IsSound c item → Exists (ReadsUsage c item)
  usage-some c item g =
      let scope = optional-some (ReadsTextOf class.Scope) c class.Scope item g (λ i h. text-some class.Scope i h (omega arith)) in
      let area = optional-some (ReadsTextOf class.Area) c class.Area item g (λ i h. text-some class.Area i h (omega arith)) in
      let bbox = optional-some (ReadsBox class.BoundingBox) c class.BoundingBox item g (box-some) in
      let extent = optional-some (ReadsExtent class.VerticalExtent) c class.VerticalExtent item g (extent-some) in
      (record { scope = scope.0; area = area.0; bbox = bbox.0; extent = extent.0 }, record { scope = scope.1; area = area.1; bbox = bbox.1; extent = extent.1 })

  bare-some : (c : Class) (item : Item) → IsSound c item → Exists (ReadsBare c item)
  bare-some c item g = let u = usage-some c item g in bare-of c item u.0.scope u.0.area u.0.bbox u.0.extent u.1

  pub tail-some : (c : Class) (item : Item) → IsSound c item → Exists (ReadsTail c item)
  tail-some c item g =
      let usages = each-some (ReadsUsage class.Usage) c class.Usage item g (usage-some class.Usage) in
      let bare = bare-some c item g in
      let identifiers = identifiers-some c item g in
      let remark = optional-some (ReadsTextOf class.Remark) c class.Remark item g (λ i h. text-some class.Remark i h (omega arith)) in
      (record { usages = usages.0; bare_parts = bare.0; identifiers = identifiers.0; remark = remark.0 }, record { usages = usages.1; bare_parts = bare.1; identifiers = identifiers.1; remark = remark.1 })
