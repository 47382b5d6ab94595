-- Ellipsoids, geodetic reference frames and usages that are canonical as they stand are what is written of all that is read from them.
use Rattle.std.proofs.Common.{◌≡◌, List, [], ◌∷◌, codes, refl, ℕ}
use Rattle.crs_text.specs.inner.Prelude.{Item, End, More, arguments, raw_of, number, text, item_text}
use Rattle.crs_shape.specs.inner.Prelude.{class_named, is_keyword}
use Rattle.crs_value.specs.inner.Prelude.{ReadsEach, ReadsDatum, ReadsEllipsoid, ReadsIdent, ReadsNumberOf, ReadsTextOf, ReadsUnit, DatumParts, EllipsoidParts, ReadsBox, ReadsExtent, ReadsUsage, BoxParts, UsageParts}
use Rattle.crs_value.specs.Values.{IdentParts}
use Rattle.crs_value.specs.declared.values.level.Level.{Level}
use Rattle.crs_normal.specs.inner.Prelude.{ellipsoid_text, item_datum, norm_datum, set_idents, usage_text, text_node, item_box}
use Rattle.crs_writer.specs.inner.Copied.{IsPlainEllipsoid, IsText, IsPlainBox, IsTextNode}
use Rattle.crs_writer.proofs.CopiedLemmas.{leaf-at, leaf-text, node-at, node-text, none-kept, none-read, number-said, some-read, those-in, unit-copied}
use Rattle.crs_shape.specs.declared.class.Class.{Class}
use Rattle.crs_shape.specs.declared.class.Class.TheVariants as class
use Rattle.crs_shape.specs.declared.unit_kind.UnitKind.TheVariants as kinds

-- no identifiers are read, and none are written
no-idents : (level : Level) (is : List IdentParts) → ReadsEach (ReadsIdent class.Identifier) [] is → set_idents level is ≡ []
no-idents level [] r = none-kept level
no-idents level (i ∷ is) r = absurd r

pub ellipsoid-copied : (level : Level) (item : Item) (e : EllipsoidParts) → IsPlainEllipsoid level item → ReadsEllipsoid class.Ellipsoid item e →
    item_text item ≡ ellipsoid_text level e
unfolding class_named is_keyword
ellipsoid-copied level item e f r =
    let c = class.Ellipsoid in
    let g = f.is_unit in
    let unit = node-at c class.LengthUnit f.unit g.are f.is_length refl in
    let of = those-in c item (leaf-at text c f.name f.is_name ∷ leaf-at number c f.axis f.is_axis.kind ∷ leaf-at number c f.flattening f.is_flattening.kind
    ∷ unit ∷ []) End f.are in
    let u = some-read (ReadsUnit class.LengthUnit) f.unit [] e.unit (rw (of class.LengthUnit) at r.unit) in
    rw (
      u.is,
      node-text item f.are f.keyword,
      leaf-text text f.name e.name f.is_name (rw (of class.Text) at r.name),
      number-said f.axis e.semi_major_axis f.is_axis (rw (of class.Number) at r.semi_major_axis),
      number-said f.flattening e.inverse_flattening f.is_flattening (rw (of class.Number) at r.inverse_flattening),
      unit-copied level kinds.Length class.LengthUnit f.unit u.it refl g u.reads,
      no-idents level e.identifiers (rw (of class.Identifier) at r.identifiers),
    )

-- a geodetic reference frame of a name and an ellipsoid
pub record IsPlainDatum (level : Level) (item : Item) : Type 0 where
  pub name : Item
  pub ellipsoid : Item
  pub keyword : raw_of item ≡ codes "DATUM"
  pub are : arguments item ≡ More name (More ellipsoid End)
  pub is_name : IsText name
  pub is_ellipsoid : IsPlainEllipsoid level ellipsoid

pub datum-copied : (level : Level) (item : Item) (d : DatumParts) → IsPlainDatum level item → ReadsDatum class.GeodeticFrame item d →
    item_text item ≡ item_text (item_datum (codes "DATUM") (norm_datum level d))
unfolding class_named is_keyword
datum-copied level item d f r =
    let c = class.GeodeticFrame in
    let g = f.is_ellipsoid in
    let ellipsoid = node-at c class.Ellipsoid f.ellipsoid g.are g.keyword refl in
    let of = those-in c item (leaf-at text c f.name f.is_name ∷ ellipsoid ∷ []) End f.are in
    let e = some-read (ReadsEllipsoid class.Ellipsoid) f.ellipsoid [] d.ellipsoid (rw (of class.Ellipsoid) at r.ellipsoid) in
    rw (
      e.is,
      none-read (ReadsTextOf class.Anchor) d.anchor (rw (of class.Anchor) at r.anchor),
      none-read (ReadsNumberOf class.AnchorEpoch) d.anchor_epoch (rw (of class.AnchorEpoch) at r.anchor_epoch),
      node-text item f.are f.keyword,
      leaf-text text f.name d.name f.is_name (rw (of class.Text) at r.name),
      ellipsoid-copied level f.ellipsoid e.it g e.reads,
      no-idents level d.identifiers (rw (of class.Identifier) at r.identifiers),
    )

-- ---- usages that are canonical as they stand are what is written of all that is read from them

-- a node of one text
text-node-said : (c : Class) (word raw : List ℕ) (item : Item) → IsTextNode word item → ReadsTextOf c item raw → item_text item ≡ item_text (text_node word raw)
text-node-said c word raw item f r =
    let of = those-in c item (leaf-at text c f.inner f.is_inner ∷ []) End f.are in
    rw (node-text item f.are f.keyword, leaf-text text f.inner raw f.is_inner (rw (of class.Text) at r))

box-said : (c : Class) (item : Item) (b : BoxParts) → IsPlainBox item → ReadsBox c item b → item_text item ≡ item_text (item_box b)
box-said c item b f r =
    let of = those-in c item (leaf-at number c f.south f.is_south.kind ∷ leaf-at number c f.west f.is_west.kind
    ∷ leaf-at number c f.north f.is_north.kind ∷ leaf-at number c f.east f.is_east.kind ∷ []) End f.are in
    let are = of class.Number in
    rw (
      node-text item f.are f.keyword,
      number-said f.south b.south f.is_south (rw are at r.south),
      number-said f.west b.west f.is_west (rw are at r.west),
      number-said f.north b.north f.is_north (rw are at r.north),
      number-said f.east b.east f.is_east (rw are at r.east),
    )

-- a usage of a scope, an area and a bounding box
pub record IsPlainUsage (item : Item) : Type 0 where
  pub scope : Item
  pub area : Item
  pub bbox : Item
  pub keyword : raw_of item ≡ codes "USAGE"
  pub are : arguments item ≡ More scope (More area (More bbox End))
  pub is_scope : IsTextNode (codes "SCOPE") scope
  pub is_area : IsTextNode (codes "AREA") area
  pub is_bbox : IsPlainBox bbox

pub usage-copied : (level : Level) (item : Item) (u : UsageParts) → IsPlainUsage item → ReadsUsage class.Usage item u → item_text item ≡ usage_text level u
unfolding class_named is_keyword
usage-copied level item u f r =
    let c = class.Usage in
    let i = f.is_scope in
    let j = f.is_area in
    let k = f.is_bbox in
    let scope = node-at c class.Scope f.scope i.are i.keyword refl in
    let area = node-at c class.Area f.area j.are j.keyword refl in
    let bbox = node-at c class.BoundingBox f.bbox k.are k.keyword refl in
    let of = those-in c item (scope ∷ area ∷ bbox ∷ []) End f.are in
    let s = some-read (ReadsTextOf class.Scope) f.scope [] u.scope (rw (of class.Scope) at r.scope) in
    let a = some-read (ReadsTextOf class.Area) f.area [] u.area (rw (of class.Area) at r.area) in
    let b = some-read (ReadsBox class.BoundingBox) f.bbox [] u.bbox (rw (of class.BoundingBox) at r.bbox) in
    rw (
      s.is,
      a.is,
      b.is,
      none-read (ReadsExtent class.VerticalExtent) u.extent (rw (of class.VerticalExtent) at r.extent),
      node-text item f.are f.keyword,
      text-node-said class.Scope (codes "SCOPE") s.it f.scope i s.reads,
      text-node-said class.Area (codes "AREA") a.it f.area j a.reads,
      box-said class.BoundingBox f.bbox b.it k b.reads,
    )
