-- Readings: what is read from an item, or from the arguments of one class; what holds of each of some values, or of one; and what identifiers say, and nodes that have a name and identifiers alone.
use Rattle.std.specs.Prelude.{Bool, List, [], ◌∷◌, Option, Some, None, if◌then◌else◌, ◌≡◌, ℕ}
use denote.Enum.Bare.{sameb}
use Rattle.crs_text.specs.Items.{Item, Siblings, End, More, arguments, raw_of, kind_of_item, skip}
use Rattle.crs_shape.specs.contracts.class.Class.{the_type}
use Rattle.crs_shape.specs.declared.class.Class.{Class}
use Rattle.crs_shape.specs.ShapeFault.{class_in}
use Rattle.crs_shape.specs.Shape.{is_class}
use Rattle.crs_text.specs.declared.items.ItemKind.{ItemKind}
use Rattle.crs_value.specs.NamedValues.{IdentParts, NamedParts}
use Rattle.crs_text.specs.declared.items.ItemKind.TheVariants as kinds
use Rattle.crs_shape.specs.declared.class.Class.TheVariants as class
pub use Rattle.crs_shape.specs.Dimensions.{OneIs, IsReading}

-- ---- readings: what is read from an item, or from the arguments of one class; and what holds of each of some values, or of one

-- each of these values has the property
abbrev pub Each : {V : Type 0} → (V → Type 0) → List V → Type 0
Each P [] = Unit {0}
Each P (value ∷ values) = P value × Each P values

-- whether two classes are the same
abbrev pub is_same : Class → Class → Bool
is_same c d = sameb the_type d c

-- whether an item is of this class in its parent
abbrev pub is_a : Class → Class → Item → Bool
is_a parent c item = is_class c (class_in parent item)

-- the arguments that are of this class in their parent, in order
abbrev pub those : Class → Class → Siblings → List Item
those parent c End = []
those parent c (More item items) = if is_a parent c item then item ∷ those parent c items else those parent c items

-- the value is read from the first of these items
abbrev pub ReadsFirst : {V : Type 0} → (Item → V → Type 0) → List Item → V → Type 0
ReadsFirst Reads [] value = ⊥
ReadsFirst Reads (item ∷ items) value = Reads item value

-- the value is read from the first of these items, and there is none where there are no items
abbrev pub ReadsOptional : {V : Type 0} → (Item → V → Type 0) → List Item → Option V → Type 0
ReadsOptional Reads [] None = Unit {0}
ReadsOptional Reads [] (Some value) = ⊥
ReadsOptional Reads (item ∷ items) None = ⊥
ReadsOptional Reads (item ∷ items) (Some value) = Reads item value

-- the value is read from the first of these items, and where there are none as the rest says
abbrev pub ReadsElse : {V : Type 0} → (Item → V → Type 0) → List Item → (V → Type 0) → V → Type 0
ReadsElse Reads [] Otherwise value = Otherwise value
ReadsElse Reads (item ∷ items) Otherwise value = Reads item value

-- a value is read from each of these items, in order
abbrev pub ReadsEach : {V : Type 0} → (Item → V → Type 0) → List Item → List V → Type 0
ReadsEach Reads [] [] = Unit {0}
ReadsEach Reads [] (value ∷ values) = ⊥
ReadsEach Reads (item ∷ items) [] = ⊥
ReadsEach Reads (item ∷ items) (value ∷ values) = Reads item value × ReadsEach Reads items values

-- the value is read from the first argument of class `d` of an item of class `c`
abbrev pub ReadsOne : {V : Type 0} → (Class → Item → V → Type 0) → Class → Class → Item → V → Type 0
ReadsOne Reads d c item value = ReadsFirst (Reads d) (those c d (arguments item)) value

-- the value is read from the first argument of class `d` of an item
-- of class `c`, and there is none where there is no such argument
abbrev pub ReadsIfAny : {V : Type 0} → (Class → Item → V → Type 0) → Class → Class → Item → Option V → Type 0
ReadsIfAny Reads d c item value = ReadsOptional (Reads d) (those c d (arguments item)) value

-- a value is read from each argument of class `d` of an item of class `c`, in order
abbrev pub ReadsAll : {V : Type 0} → (Class → Item → V → Type 0) → Class → Class → Item → List V → Type 0
ReadsAll Reads d c item values = ReadsEach (Reads d) (those c d (arguments item)) values

-- the value is read from the first argument of class `d` of an item
-- of class `c`, and where there is none as the rest says of the item
abbrev pub ReadsOneElse : {V : Type 0} → (Class → Item → V → Type 0) → Class →
    (Class → Item → V → Type 0) → Class → Item → V → Type 0
ReadsOneElse Reads d Otherwise c item value = ReadsElse (Reads d) (those c d (arguments item)) (Otherwise c item) value

-- ---- what identifiers say, and nodes that have a name and identifiers alone

-- a text is its characters, and so is a code or a version, quoted or not
abbrev pub ReadsText : Item → List ℕ → Type 0
ReadsText item characters = raw_of item ≡ characters

-- the node's text
abbrev pub ReadsTextOf : Class → Item → List ℕ → Type 0
ReadsTextOf c item characters = ReadsFirst ReadsText (those c class.Text (arguments item)) characters

-- an item that is no node, as a list of one; any other gives none
abbrev pub single_of : Siblings → List Item
single_of End = []
single_of (More item items) = by (kind_of_item item)
  where
    by : ItemKind → List Item
    by kinds.Node = []
    by other = item ∷ []

-- an identifier: its authority; its code, which is the second argument; its version, which is the
-- third, if that is no node; its citation and URI, where they are written
pub record ReadsIdent (c : Class) (item : Item) (parts : IdentParts) : Type 0 where
  pub authority : ReadsTextOf c item parts.authority
  pub code : ReadsFirst ReadsText (single_of (skip 1 (arguments item))) parts.code
  pub version : ReadsOptional ReadsText (single_of (skip 2 (arguments item))) parts.version
  pub citation : ReadsIfAny ReadsTextOf class.Citation c item parts.citation
  pub uri : ReadsIfAny ReadsTextOf class.Uri c item parts.uri

-- the identifiers of a node
abbrev pub ReadsIds : Class → Item → List IdentParts → Type 0
ReadsIds c item identifiers = ReadsAll ReadsIdent class.Identifier c item identifiers

-- a node that has a name and identifiers alone
pub record ReadsNamed (c : Class) (item : Item) (parts : NamedParts) : Type 0 where
  pub name : ReadsTextOf c item parts.name
  pub identifiers : ReadsIds c item parts.identifiers
