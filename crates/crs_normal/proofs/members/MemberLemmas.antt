-- Members of sets and their units, boxes and extents: their items read as them wherever they are.
use Rattle.std.proofs.Common.{ap, ◌∙◌, ◌≡◌, ℕ, ◌+◌, codes, Some, List, [], ◌∷◌, length, refl, map, ◌++◌, ◌≢◌, drop, Option, None, subst, IfSome, ◌⊎◌, IsSome, option_map, inl, inr, arith}
use Rattle.crs_decimal.specs.inner.Prelude.{Value, IsNormal}
use Rattle.crs_text.specs.inner.Prelude.{Item, at_place, Siblings, More, arguments, End, IsNode}
use Rattle.crs_shape.specs.declared.class.Class.{Class}
use Rattle.crs_shape.specs.declared.unit_kind.UnitKind.{UnitKind}
use Rattle.crs_shape.specs.inner.Prelude.{class_named, unit_word, SlotParts}
use Rattle.crs_value.specs.declared.values.level.Level.{Level}
use Rattle.crs_value.specs.inner.Prelude.{ReadsIds, ReadsNumber, ReadsUnit, IsIdent, IsUnit, UnitParts, those, ReadsFirst, ReadsOptional, ReadsBox, ReadsExtent, IsUnitOf, IsBox, IsExtent, BoxParts, ExtentParts, NamedParts, ReadsNamed, IsNamed, ReadsUsage, IsText, IsUsage, SaysSome, UsageParts}
use Rattle.crs_value.specs.Sound.{Each}
use Rattle.crs_value.specs.Values.{IdentParts}
use Rattle.crs_normal.specs.inner.Prelude.{number_item, item_ident, item_unit, norm_unit, opt, norm_length, norm_units, item_box, item_extent, norm_extent, norm_member, each, node_of, text_item, text_node, item_usage, norm_usage}
use Rattle.crs_normal.specs.inner.LowerLaws.{LowerLaws}
use Rattle.crs_normal.proofs.members.IdentLemmas.{ident-read}
use Rattle.crs_normal.proofs.texts.SegmentLemmas.{IsIn, Seen, Segment, a-number, a-text, all-of, each-field, items_of, seen, if-any, opt-field, some-imp, may-be, text-field, some-mapped}
use Rattle.crs_normal.proofs.read.ViewLemmas.{each-so, and_then, without_places_onto, keyword-names}
use Rattle.crs_normal.proofs.made.IdentLemmas.{idents-sound}
use Rattle.crs_normal.proofs.normal.FormLemmas.{IsGood, Looked, Opened, found-in, good-in}
use Rattle.crs_normal.proofs.normal.LeafLemmas.{ArePlain, PlainIsOne, number-form}
use Rattle.crs_normal.proofs.same.UnitLemmas.{metre-is, suits-kind}
use Rattle.crs_normal.proofs.texts.ItemLemmas.{from-arguments}
use Rattle.crs_shape.specs.declared.class.Class.TheVariants as class
use Rattle.crs_shape.specs.declared.unit_kind.UnitKind.TheVariants as kinds
use Rattle.crs_value.specs.declared.values.level.Level.TheVariants as levels

-- ---- the identifiers of a node

-- in a parent of this class `ID` is an identifier
abbrev pub NamesId : Class → Type 0
NamesId c = class_named c (codes "ID") ≡ Some class.Identifier

abbrev pub identifiers-of : {c : Class} → NamesId c → List IdentParts → Segment c
identifiers-of e identifiers = all-of class.Identifier item_ident identifiers (λ x. e)

pub identifiers-back : {c : Class} {ss : List (Segment c)} {item : Item} → Seen c ss item → (identifiers : List IdentParts) →
    items_of class.Identifier ss ≡ map item_ident identifiers ++ [] → Each IsIdent identifiers →
    ReadsIds c item identifiers
identifiers-back look identifiers same s =
    each-field look class.Identifier item_ident _ _ same (each-so _ _ ident-read identifiers s)

-- ---- numbers

pub number-read : LowerLaws → (v : Value) → IsNormal v → (place : ℕ) → ReadsNumber (at_place place (number_item v)) v
number-read laws v h place = (h, laws.denotes v h)

-- ---- units

pub unit-in : (c k : Class) (kind : UnitKind) → class_named c (unit_word kind) ≡ Some k → (u : UnitParts) →
    u.kind ≡ kind → IsIn c k (item_unit u)
unit-in c k kind e u same = ap (λ j. class_named c (unit_word j)) same ∙ e

pub unit-read : LowerLaws → (c : Class) → NamesId c → (u : UnitParts) → IsUnit u → (place : ℕ) →
    ReadsUnit c (at_place place (item_unit u)) u
unit-read laws c e u s place =
    let look = seen c (a-text u.name ∷ a-number u.factor ∷ identifiers-of e u.identifiers ∷ [])
    (at_place place (item_unit u)) (place + length (unit_word u.kind)) refl in record {
      kind = refl;
      name = refl;
      factor = number-read laws u.factor s.factor 0;
      identifiers = identifiers-back look u.identifiers refl s.identifiers;
    }

pub unit-kept : (level : Level) (asked : UnitKind) (u : UnitParts) → IsUnit u → IsUnit (norm_unit level asked u)
unit-kept level asked u s = record {
  name = s.name;
  factor = s.factor;
  above_zero = s.above_zero;
  identifiers = idents-sound level u.identifiers s.identifiers;
}

-- ---- several numbers in slots of their own, and optional units, as they are written

abbrev pub Alone : List Item → Type 0
Alone front = (item : Item) × (front ≡ item ∷ [])

-- two numbers, each in a slot of its own
pub two-in : PlainIsOne → {level : Level} {c : Class} {slots : List SlotParts} {item : Item} {keyword : List ℕ}
    (o : Opened level c slots item keyword) → ArePlain c → (f g : List Item) →
    Looked o class.Number (and_then f g) → Alone f → Alone g → (x y : Value) →
    ReadsFirst ReadsNumber (drop 0 (those c class.Number (arguments item))) x →
    ReadsFirst ReadsNumber (drop 1 (those c class.Number (arguments item))) y →
    {rest after : Siblings} → rest ≡ after →
    without_places_onto f (without_places_onto g rest) ≡ More (number_item x) (More (number_item y) after)
two-in law {level = level} {c = c} o plains f g e p q x y a b same =
    let are = found-in o class.Number (rw (p.1, q.1) at e) in
    let goods = subst (Each (IsGood level c class.Number)) are (good-in o class.Number) in
    let first = number-form law level c plains p.0 x goods.0 (rw are at a) in
    let second = number-form law level c plains q.0 y goods.1.0 (rw are at b) in
    rw (p.1, q.1, first, second, same)

-- four numbers likewise
pub four-in : PlainIsOne → {level : Level} {c : Class} {slots : List SlotParts} {item : Item} {keyword : List ℕ}
    (o : Opened level c slots item keyword) → ArePlain c → (f g h k : List Item) →
    Looked o class.Number (and_then f (and_then g (and_then h k))) → Alone f → Alone g → Alone h → Alone k →
    (x y z w : Value) → ReadsFirst ReadsNumber (drop 0 (those c class.Number (arguments item))) x →
    ReadsFirst ReadsNumber (drop 1 (those c class.Number (arguments item))) y →
    ReadsFirst ReadsNumber (drop 2 (those c class.Number (arguments item))) z →
    ReadsFirst ReadsNumber (drop 3 (those c class.Number (arguments item))) w →
    {rest after : Siblings} → rest ≡ after →
    without_places_onto f (without_places_onto g (without_places_onto h (without_places_onto k rest))) ≡ More (number_item x)
    (More (number_item y) (More (number_item z) (More (number_item w) after)))
four-in law {level = level} {c = c} o plains f g h k e p q r s x y z w a b d t same =
    let are = found-in o class.Number (rw (p.1, q.1, r.1, s.1) at e) in
    let goods = subst (Each (IsGood level c class.Number)) are (good-in o class.Number) in
    let first = number-form law level c plains p.0 x goods.0 (rw are at a) in
    let second = number-form law level c plains q.0 y goods.1.0 (rw are at b) in
    let third = number-form law level c plains r.0 z goods.1.1.0 (rw are at d) in
    let fourth = number-form law level c plains s.0 w goods.1.1.1.0 (rw are at t) in
    rw (p.1, q.1, r.1, s.1, first, second, third, fourth, same)

-- ---- optional parts in their normal form

pub opt-units : (level : Level) (asked : UnitKind) (unit : Option UnitParts) (rest : Siblings) →
    opt (λ u. item_unit (norm_unit level asked u)) unit rest ≡ opt item_unit (norm_units level asked unit) rest
opt-units level asked None rest = refl
opt-units level asked (Some u) rest = refl

-- a unit of length that is there
pub opt-length : (R : Item → UnitParts → Type 0) (level : Level) (found : List Item) (unit : Option UnitParts) →
    found ≢ [] → ReadsOptional R found unit → (rest : Siblings) →
    opt (λ u. item_unit (norm_unit level kinds.Length u)) unit rest ≡ More (item_unit (norm_length level unit)) rest
opt-length R level [] None some reads rest = absurd (some refl)
opt-length R level [] (Some u) some reads rest = absurd reads
opt-length R level (item ∷ items) None some reads rest = absurd reads
opt-length R level (item ∷ items) (Some u) some reads rest = refl

-- ---- boxes and extents of a usage: their items read as them wherever they are

-- ---- units of length, where a missing one is the metre

-- a unit of length by its own keyword
abbrev pub IsLength : UnitParts → Type 0
IsLength u = IsUnit u × (u.kind ≡ kinds.Length)

pub length-kept : (level : Level) (o : Option UnitParts) → IfSome o (IsUnitOf kinds.Length) →
    IsLength (norm_length level o)
length-kept level None s = (metre-is, refl)
length-kept level (Some u) s = (unit-kept level kinds.Length u s.0, suits-kind kinds.Length u.kind s.1)

-- ---- boxes

pub box-read : LowerLaws → (b : BoxParts) → IsBox b → (place : ℕ) →
    ReadsBox class.BoundingBox (at_place place (item_box b)) b
box-read laws b s place = record {
  south = number-read laws b.south s.south 0;
  west = number-read laws b.west s.west 0;
  north = number-read laws b.north s.north 0;
  east = number-read laws b.east s.east 0;
}

-- ---- extents

-- an extent whose unit, if it is written, is of length by its own keyword
pub record IsWrittenExtent (e : ExtentParts) : Type 0 where
  pub minimum : IsNormal e.minimum
  pub maximum : IsNormal e.maximum
  pub unit : IfSome e.unit IsLength

pub extent-read : LowerLaws → (e : ExtentParts) → IsWrittenExtent e → (place : ℕ) →
    ReadsExtent class.VerticalExtent (at_place place (item_extent e)) e
extent-read laws e s place =
    let look = seen class.VerticalExtent (a-number e.minimum ∷ a-number e.maximum ∷
    if-any class.LengthUnit item_unit e.unit
    (some-imp _ _ (λ u q. unit-in class.VerticalExtent class.LengthUnit kinds.Length (keyword-names _ _) u q.1) e.unit
    s.unit) ∷ [])
    (at_place place (item_extent e)) (place + 14) refl in record {
      minimum = number-read laws e.minimum s.minimum 0;
      maximum = number-read laws e.maximum s.maximum 0;
      unit = opt-field look class.LengthUnit item_unit _ _ refl
          (some-imp _ _ (λ u q. unit-read laws class.LengthUnit (keyword-names _ _) u q.0) e.unit s.unit);
    }

pub extent-kept : (level : Level) (e : ExtentParts) → IsExtent e → IsWrittenExtent (norm_extent level e)
extent-kept level e s = record { minimum = s.minimum; maximum = s.maximum; unit = length-kept level e.unit s.unit }

-- ---- nodes of a name and identifiers alone, as members of an ensemble and geoid models are: their items read as them wherever they are

-- ---- nodes of a name and identifiers

abbrev pub item_named : List ℕ → NamedParts → Item
item_named keyword n = node_of keyword (text_item n.name) (each item_ident n.identifiers End)

pub named-read : (c : Class) (keyword : List ℕ) → NamesId c → (n : NamedParts) → IsNamed n → (place : ℕ) →
    ReadsNamed c (at_place place (item_named keyword n)) n
named-read c keyword names n s place =
    let look = seen c (a-text n.name ∷ identifiers-of names n.identifiers ∷ [])
    (at_place place (item_named keyword n)) (place + length keyword) refl in
    record { name = refl; identifiers = identifiers-back look n.identifiers refl s.identifiers }

pub named-kept : (level : Level) (n : NamedParts) → IsNamed n → IsNamed (norm_member level n)
named-kept level n s = record { name = s.name; identifiers = idents-sound level n.identifiers s.identifiers }

-- ---- usages: the item of one reads as it wherever it is

-- a usage as it is written: what it says, and of its extent a unit of length by its own keyword
pub record IsWrittenUsage (u : UsageParts) : Type 0 where
  pub scope : IfSome u.scope IsText
  pub area : IfSome u.area IsText
  pub bbox : IfSome u.bbox IsBox
  pub extent : IfSome u.extent IsWrittenExtent
  pub some : SaysSome u

-- ---- its parts

abbrev pub usage_items : UsageParts → Siblings
usage_items u =
    opt (text_node (codes "SCOPE")) u.scope (opt (text_node (codes "AREA")) u.area
    (opt item_box u.bbox (opt item_extent u.extent End)))

pub usage-read : LowerLaws → (u : UsageParts) → IsWrittenUsage u → (place : ℕ) →
    ReadsUsage class.Usage (at_place place (item_usage u)) u
usage-read laws u s place =
    let look = seen class.Usage (may-be class.Scope (text_node (codes "SCOPE")) u.scope (λ x. keyword-names _ _) ∷
    may-be class.Area (text_node (codes "AREA")) u.area (λ x. keyword-names _ _) ∷
    may-be class.BoundingBox item_box u.bbox (λ x. keyword-names _ _) ∷
    may-be class.VerticalExtent item_extent u.extent (λ x. keyword-names _ _) ∷ [])
    (at_place place (item_usage u)) (place + 5) (from-arguments (codes "USAGE") (usage_items u) place) in record {
      scope = text-field look class.Scope (codes "SCOPE") u.scope refl;
      area = text-field look class.Area (codes "AREA") u.area refl;
      bbox = opt-field look class.BoundingBox item_box _ _ refl (some-imp _ _ (box-read laws) u.bbox s.bbox);
      extent = opt-field look class.VerticalExtent item_extent _ _ refl (some-imp _ _ (extent-read laws)
          u.extent s.extent);
    }

-- ---- well formed

pub usage-is-node : (u : UsageParts) → SaysSome u → IsNode (item_usage u)
usage-is-node u = by u.scope u.area u.bbox u.extent
  where
    by : (s a : Option (List ℕ)) (b : Option BoxParts) (e : Option ExtentParts) →
        IsSome s ⊎ (IsSome a ⊎ (IsSome b ⊎ IsSome e)) →
        IsNode (item_usage (record { scope = s; area = a; bbox = b; extent = e }))
    by (Some s) a b e h = tt
    by None (Some a) b e h = tt
    by None None (Some b) e h = tt
    by None None None (Some e) h = tt
    by None None None None h = grind (arith, h)

-- ---- the one form

still-some : (o : Option ExtentParts) → IsSome o → IsSome (option_map (norm_extent levels.Full) o)
still-some None s = s
still-some (Some e) s = refl

pub says-kept : (u : UsageParts) → SaysSome u → SaysSome (norm_usage u)
says-kept u (inl h) = inl h
says-kept u (inr (inl h)) = inr (inl h)
says-kept u (inr (inr (inl h))) = inr (inr (inl h))
says-kept u (inr (inr (inr h))) = inr (inr (inr (still-some u.extent h)))

pub usage-kept : (u : UsageParts) → IsUsage u → IsWrittenUsage (norm_usage u)
usage-kept u s = record {
  scope = s.scope;
  area = s.area;
  bbox = s.bbox;
  extent = some-mapped _ _ _ (extent-kept levels.Full) u.extent s.extent;
  some = says-kept u s.some;
}
