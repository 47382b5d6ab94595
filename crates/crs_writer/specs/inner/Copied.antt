-- A bridge: nodes of the commonest forms that are canonical as they stand.
use Rattle.std.specs.Prelude.{◌≡◌, ℕ, IsTrue, List, Option, codes}
use Rattle.crs_decimal.specs.Numbers.{plain, Value}
use Rattle.crs_text.specs.Items.{HasId, Item, Siblings, End, More, arguments, kind_of_item, raw_of}
use Rattle.crs_text.specs.declared.items.ItemKind.{ItemKind}
use Rattle.crs_text.specs.declared.items.ItemKind.TheVariants as items
use Rattle.crs_shape.specs.Words.{SpellsWord, direction_word, unit_word}
use Rattle.crs_shape.specs.declared.direction.Direction.{Direction}
use Rattle.crs_shape.specs.declared.unit_kind.UnitKind.{UnitKind}
use Rattle.crs_shape.specs.declared.unit_kind.UnitKind.TheVariants as kinds
use Rattle.crs_value.specs.inner.Arguments.{Holds, ahead, item_at}
use Rattle.crs_value.specs.declared.values.level.Level.{Level}
use Rattle.crs_value.specs.declared.values.level.Level.TheVariants as levels
use Rattle.crs_normal.specs.inner.SpelledItems.{is_short, whole_value}
use Rattle.crs_writer.specs.inner.FromItems.{IsNumber}

-- a node of this keyword, and the number of its first argument
pub record IsOpened (tree : Item) (id : ℕ) (keyword : List ℕ) (at : Option ℕ) : Type 0 where
  pub is_keyword : raw_of (item_at tree id) ≡ keyword
  pub holds : Holds tree at
  pub are : ahead tree at ≡ arguments (item_at tree id)

-- the next argument, which is of this kind, and the number of the one behind it
pub record IsNext (tree : Item) (at : Option ℕ) (kind : ItemKind) (id : ℕ) (next : Option ℕ) : Type 0 where
  pub has : HasId tree id
  pub are : ahead tree at ≡ More (item_at tree id) (ahead tree next)
  pub is_kind : kind_of_item (item_at tree id) ≡ kind
  pub holds : Holds tree next

-- a text
abbrev pub IsText : Item → Type 0
IsText item = kind_of_item item ≡ items.Text

-- the bytes are the plain spelling of the number that they spell
abbrev pub IsPlainly : List ℕ → Type 0
IsPlainly raw = (value : Value) → IsNumber raw value → raw ≡ plain value

-- a number in its plain spelling
pub record IsPlainNumber (item : Item) : Type 0 where
  pub kind : kind_of_item item ≡ items.Number
  pub plain : IsPlainly (raw_of item)

-- an identifier of an authority and a code of 1 to 18 digits, which has no quotes, alone
pub record IsShortIdent (item : Item) : Type 0 where
  pub authority : Item
  pub code : Item
  pub keyword : raw_of item ≡ codes "ID"
  pub are : arguments item ≡ More authority (More code End)
  pub is_authority : IsText authority
  pub is_code : kind_of_item code ≡ items.Number
  pub short : IsTrue (is_short (raw_of code))

-- nothing more, or at a level that keeps it one such identifier
abbrev pub IsEnd : Level → Siblings → Type 0
IsEnd level End = Unit {0}
IsEnd level (More item others) = (level ≡ levels.Full) × IsShortIdent item × (others ≡ End)

-- the keyword of a unit of this kind says which kind it is
abbrev pub SaysKind : UnitKind → Type 0
SaysKind kinds.Length = Unit {0}
SaysKind kinds.Angle = Unit {0}
SaysKind kinds.Scale = Unit {0}
SaysKind kinds.Plain = ⊥

-- the bytes are the word of this value, and spell that of no other
pub record IsWordOf {V : Type 0} (word : V → List ℕ) (raw : List ℕ) (value : V) : Type 0 where
  pub is : raw ≡ word value
  pub only : (other : V) → SpellsWord raw (word other) → other ≡ value

-- the bytes are the keyword of such a kind
abbrev pub IsSaidKind : List ℕ → Type 0
IsSaidKind raw = (kind : UnitKind) × SaysKind kind × IsWordOf unit_word raw kind

-- a unit whose keyword says its kind
pub record IsSaidUnit (level : Level) (item : Item) : Type 0 where
  pub name : Item
  pub factor : Item
  pub rest : Siblings
  pub keyword : IsSaidKind (raw_of item)
  pub are : arguments item ≡ More name (More factor rest)
  pub is_name : IsText name
  pub is_factor : IsPlainNumber factor
  pub is_end : IsEnd level rest

-- a node of this keyword and one text
pub record IsTextNode (word : List ℕ) (item : Item) : Type 0 where
  pub inner : Item
  pub keyword : raw_of item ≡ word
  pub are : arguments item ≡ More inner End
  pub is_inner : IsText inner

-- a bounding box
pub record IsPlainBox (item : Item) : Type 0 where
  pub south : Item
  pub west : Item
  pub north : Item
  pub east : Item
  pub keyword : raw_of item ≡ codes "BBOX"
  pub are : arguments item ≡ More south (More west (More north (More east End)))
  pub is_south : IsPlainNumber south
  pub is_west : IsPlainNumber west
  pub is_north : IsPlainNumber north
  pub is_east : IsPlainNumber east

-- an ellipsoid that has a unit of length, and no identifier
pub record IsPlainEllipsoid (level : Level) (item : Item) : Type 0 where
  pub name : Item
  pub axis : Item
  pub flattening : Item
  pub unit : Item
  pub keyword : raw_of item ≡ codes "ELLIPSOID"
  pub are : arguments item ≡ More name (More axis (More flattening (More unit End)))
  pub is_name : IsText name
  pub is_axis : IsPlainNumber axis
  pub is_flattening : IsPlainNumber flattening
  pub is_unit : IsSaidUnit level unit
  pub is_length : raw_of unit ≡ codes "LENGTHUNIT"

-- the bytes are the word of a direction in its own letters
abbrev pub IsDirectionWord : List ℕ → Type 0
IsDirectionWord raw = (direction : Direction) × IsWordOf direction_word raw direction

-- the order that this number is
pub record IsPlainOrder (position : ℕ) (item : Item) : Type 0 where
  pub inner : Item
  pub keyword : raw_of item ≡ codes "ORDER"
  pub are : arguments item ≡ More inner End
  pub kind : kind_of_item inner ≡ items.Number
  pub is : raw_of inner ≡ plain (whole_value position)
