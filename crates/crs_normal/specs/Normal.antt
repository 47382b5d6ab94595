-- Normal texts: the one spelling of a CRS, as a property of a text; lists in ascending order of their bytes, no bytes twice.
use Rattle.std.specs.Prelude.{◌≡◌, ℕ, List, [], ◌∷◌, ◌≢◌, ◌≤◌, ◌⊎◌, ◌+◌, true, ◌++◌, map, length, codes, decimal, Some}
use Rattle.std.specs.Cmp.Lexicographic.{slice_cmp}
use Rattle.std.specs.Ordering.{nat_cmp}
use Rattle.std.specs.declared.cmp.Ordering.TheVariants.{Less}
use Rattle.crs_value.specs.Sound.{Each}
use Rattle.std.specs.List.{list_all}
use Rattle.crs_decimal.specs.Numbers.{is_digit, IsPlain}
use Rattle.crs_text.specs.Items.{Item, Siblings, End, More, arguments, kind_of_item, raw_of, skip, leaf, node}
use Rattle.crs_text.specs.Written.{item_text}
use Rattle.crs_shape.specs.declared.class.Class.{Class}
use Rattle.crs_shape.specs.ShapeFault.{class_in, class_of_root}
use Rattle.crs_value.specs.Checks.{AtClass}
use Rattle.crs_value.specs.Reading.{those}
use Rattle.crs_value.specs.Reads.{single_of}
use Rattle.crs_text.specs.declared.keyword.Keyword.{Keyword}
use Rattle.crs_text.specs.Keywords.{spelling_of}
use Rattle.crs_text.specs.TextFault.{SpellsNode}
use Rattle.crs_text.specs.Tokens.{Kind, number, text, word}
use Rattle.crs_shape.specs.declared.direction.Direction.{Direction}
use Rattle.crs_shape.specs.declared.system_type.SystemType.{SystemType}
use Rattle.crs_shape.specs.Keywords.{keywords_of}
use Rattle.crs_shape.specs.Words.{direction_word, system_word}
use Rattle.crs_value.specs.Kept.{kept}
use Rattle.crs_value.specs.declared.values.level.Level.{Level}
use Rattle.crs_text.specs.declared.items.ItemKind.TheVariants as kinds
use Rattle.crs_shape.specs.declared.class.Class.TheVariants as class
pub use Rattle.crs_value.specs.Members.{IsIn}

-- the first bytes are below the second, compared byte by byte
abbrev pub Below : List ℕ → List ℕ → Type 0
Below a b = slice_cmp nat_cmp a b ≡ Less

-- each member is below all after it
abbrev pub Ascends : {A : Type 0} → (A → List ℕ) → List A → Type 0
Ascends bytes [] = Unit {0}
Ascends bytes (x ∷ xs) = Each (λ y. Below (bytes x) (bytes y)) xs × Ascends bytes xs

-- ---- what a canonical text asks of a node by itself, beyond what is asked of every accepted text

-- ---- what a node has, and what it lacks

-- the node, of class `c`, has an argument of class `d`
abbrev pub Has : Class → Class → Item → Type 0
Has c d item = those c d (arguments item) ≢ []

-- the node, of class `c`, has no argument of class `d`
abbrev pub Lacks : Class → Class → Item → Type 0
Lacks c d item = those c d (arguments item) ≡ []

-- the bytes of each number in the node, which is of class `c`
abbrev pub numbers_in : Class → Item → List (List ℕ)
numbers_in c item = map raw_of (those c class.Number (arguments item))

-- the bytes of each word in the node, which is of class `c`
abbrev pub words_in : Class → Item → List (List ℕ)
words_in c item = map raw_of (those c class.Word (arguments item))

-- ---- sets: identifiers, usages, members of an ensemble, parameters, geoid models

-- each is below all after it, by the bytes that they are written with
abbrev pub Ascend : List Item → Type 0
Ascend items = Ascends item_text items

-- the nodes that are members of sets
abbrev pub set_classes : List Class
set_classes = class.Identifier ∷ class.Usage ∷ class.Member ∷ class.Parameter ∷ class.GeoidModel ∷ []

-- the members of each set ascend
abbrev pub HasSets : Class → Item → Type 0
HasSets c item = Each (λ d. Ascend (those c d (arguments item))) set_classes

-- ---- axes: by position, each with its order and its own unit; none is shared

-- the axis has one order, which is this number, plainly written
abbrev pub HasOneOrder : ℕ → Item → Type 0
HasOneOrder k axis =
    map (numbers_in class.Order) (those class.Axis class.Order (arguments axis))
    ≡ (decimal k ∷ []) ∷ []

-- the axes have one order each: the first has k, the next k + 1, and so on
abbrev pub AreOrdered : ℕ → List Item → Type 0
AreOrdered k [] = Unit {0}
AreOrdered k (axis ∷ axes) = HasOneOrder k axis × AreOrdered (k + 1) axes

-- the axes are in the order of their positions, each has its own unit, and the node, of class `c`,
-- has none that they share
pub record HasAxes (c : Class) (item : Item) : Type 0 where
  pub ordered : AreOrdered 1 (those c class.Axis (arguments item))
  pub own_units : Each (Has class.Axis class.AxisUnit) (those c class.Axis (arguments item))
  pub none_shared : Lacks c class.AxisUnit item

-- ---- the order of what may come in any: at a CRS's end geoid models, usages, identifiers, a
-- remark, and no part of a usage is bare; in a reference frame the anchor, its epoch, identifiers

-- the rank of an argument of this class among those, 0 for what comes before them
abbrev pub rank : Class → ℕ
rank class.GeoidModel = 1
rank class.Anchor = 1
rank class.AnchorEpoch = 2
rank class.Usage = 2
rank class.Identifier = 3
rank class.Remark = 4
rank other = 0

-- the ranks of the arguments never fall, from this one on
abbrev pub Rise : Class → ℕ → Siblings → Type 0
Rise c least End = Unit {0}
Rise c least (More item items) = AtClass (class_in c item) (λ d. (least ≤ rank d) × Rise c (rank d) items)

-- the parts of a usage
abbrev pub bare_classes : List Class
bare_classes = class.Scope ∷ class.Area ∷ class.BoundingBox ∷ class.VerticalExtent ∷ []

-- what ends the node, of class `c`, is in order, and no part of a usage is bare there
pub record HasTail (c : Class) (item : Item) : Type 0 where
  pub in_order : Rise c 0 (arguments item)
  pub none_bare : Each (λ d. Lacks c d item) bare_classes

-- ---- codes: 1 to 18 digits are without quotes, everything else is in quotes

-- 1 to 18 digits
pub record IsShort (raw : List ℕ) : Type 0 where
  pub digits : list_all is_digit raw ≡ true
  pub some : 1 ≤ length raw
  pub few : length raw ≤ 18

-- a code or version is a number where it is 1 to 18 digits, else a text in quotes
abbrev pub IsCode : Item → Type 0
IsCode item =
    (IsShort (raw_of item) × (kind_of_item item ≡ kinds.Number))
    ⊎ (¬ (IsShort (raw_of item)) × (kind_of_item item ≡ kinds.Text))

-- the code and the version of an identifier, each written as such
abbrev pub HasCodes : Item → Type 0
HasCodes item = Each IsCode (single_of (skip 1 (arguments item)) ++ single_of (skip 2 (arguments item)))

-- ---- each class

-- at longitude 0 a prime meridian has no unit
abbrev pub HasNoUnitAtZero : Item → Type 0
HasNoUnitAtZero item =
    numbers_in class.PrimeMeridian item ≡ codes "0" ∷ [] →
    Lacks class.PrimeMeridian class.AngleUnit item

-- no coordinate system in the node, which is of class `c`, is ellipsoidal
abbrev pub LacksEllipsoidal : Class → Item → Type 0
LacksEllipsoidal c item =
    Each (λ cs. words_in class.CoordinateSystem cs ≢ codes "ellipsoidal" ∷ [])
    (those c class.CoordinateSystem (arguments item))

-- what is asked of a node of this class by itself: a value that is usual is written all the same,
-- and arguments that may come in several orders come in one
abbrev pub HasOwnForm : Class → Item → Type 0
HasOwnForm class.GeodeticCrs item =
    LacksEllipsoidal class.GeodeticCrs item × Has class.GeodeticCrs class.PrimeMeridian item
    × HasAxes class.GeodeticCrs item × HasTail class.GeodeticCrs item
HasOwnForm class.GeographicCrs item =
    Has class.GeographicCrs class.PrimeMeridian item × HasAxes class.GeographicCrs item
    × HasTail class.GeographicCrs item
HasOwnForm class.ProjectedCrs item = HasAxes class.ProjectedCrs item × HasTail class.ProjectedCrs item
HasOwnForm class.VerticalCrs item = HasAxes class.VerticalCrs item × HasTail class.VerticalCrs item
HasOwnForm class.CompoundCrs item = HasTail class.CompoundCrs item
HasOwnForm class.BaseCrs item = Has class.BaseCrs class.PrimeMeridian item
HasOwnForm class.GeodeticFrame item = Rise class.GeodeticFrame 0 (arguments item)
HasOwnForm class.VerticalFrame item = Rise class.VerticalFrame 0 (arguments item)
HasOwnForm class.Ellipsoid item = Has class.Ellipsoid class.LengthUnit item
HasOwnForm class.VerticalExtent item = Has class.VerticalExtent class.LengthUnit item
HasOwnForm class.PrimeMeridian item = HasNoUnitAtZero item
HasOwnForm class.Identifier item = HasCodes item
HasOwnForm other item = Unit {0}

-- ---- normal texts: the one spelling of a CRS, as a property of a text. It says what is asked beyond acceptance; which arguments a node has and in which order is the shape's

-- the keyword is spelled as the first of these
abbrev pub IsFirst : List ℕ → List Keyword → Type 0
IsFirst keyword [] = ⊥
IsFirst keyword (first ∷ others) = keyword ≡ spelling_of first

-- the keyword is the first of those of this class; for a unit on an axis it is the one that says its kind
abbrev pub IsFirstKeyword : Class → List ℕ → Type 0
IsFirstKeyword class.AxisUnit keyword = (keyword ≡ codes "LENGTHUNIT") ⊎ (keyword ≡ codes "ANGLEUNIT")
IsFirstKeyword c keyword = IsFirst keyword (keywords_of c)

-- a number in a node of this class is plain, but for a code or version
abbrev pub IsNumberIn : Class → List ℕ → Type 0
IsNumberIn class.Identifier raw = Unit {0}
IsNumberIn c raw = IsPlain raw

-- a type of coordinate system or a direction in a node of this class has its own letters, capitals and small ones
abbrev pub IsWordIn : Class → List ℕ → Type 0
IsWordIn class.CoordinateSystem raw = (system_type : SystemType) × (raw ≡ system_word system_type)
IsWordIn class.Axis raw = (direction : Direction) × (raw ≡ direction_word direction)
IsWordIn c raw = Unit {0}

-- a number, text or word is written as a node of this class asks
abbrev pub IsSingleIn : Class → Kind → List ℕ → Type 0
IsSingleIn parent number raw = IsNumberIn parent raw
IsSingleIn parent text raw = Unit {0}
IsSingleIn parent word raw = IsWordIn parent raw

-- the classes of which a level may leave out some or all
abbrev pub left_out : List Class
left_out = class.Identifier ∷ class.Usage ∷ class.Remark ∷ []

-- the level keeps all of these arguments of a node of class `c`
abbrev pub KeepsAll : Level → Class → Siblings → Type 0
KeepsAll level c items = Each (λ d. kept level (those c d items) ≡ those c d items) left_out

-- there is nothing in a node of class `c` that the level leaves out
abbrev pub AtLevel : Level → Class → Item → Type 0
AtLevel level c item = KeepsAll level c (arguments item)

-- a node of class `c` with this keyword has the first keyword of its class, nothing that the level
-- leaves out, what its class asks of it, ascending sets, and normal arguments, in this sense
pub record IsNormalNode (level : Level) (c : Class) (keyword : List ℕ) (item : Item)
    (AreNormal : Type 0) : Type 0 where
  pub first_keyword : IsFirstKeyword c keyword
  pub at_level : AtLevel level c item
  pub own_form : HasOwnForm c item
  pub ascending_sets : HasSets c item
  pub normal_arguments : AreNormal

abbrev mutual
  -- an item of class `c` in a node of class `parent`, or as a whole text where both are one: a
  -- single item is written as such a node asks, a node is normal by itself and in its arguments
  pub IsNormalIn : Level → Class → Class → Item → Type 0
  IsNormalIn level parent c (leaf kind place raw) = IsSingleIn parent kind raw
  IsNormalIn level parent c (node place keyword square first others close) =
      IsNormalNode level c keyword (node place keyword square first others close)
      (AtClass (class_in c first) (λ d. IsNormalIn level c d first) × AreNormalIn level c others)

  -- each of these arguments of a node of class `c` is normal there
  pub AreNormalIn : Level → Class → Siblings → Type 0
  AreNormalIn level c End = Unit {0}
  AreNormalIn level c (More item items) =
      AtClass (class_in c item) (λ d. IsNormalIn level c d item) × AreNormalIn level c items

-- a text that is its item written without white space and in square delimiters, and normal within;
-- that it is accepted, as `VERTCRS["H"]` isn't, is another condition
pub record IsNormalText (level : Level) (bytes : List ℕ) : Type 0 where
  pub item : Item
  pub class_read : Class
  pub spells : SpellsNode bytes item
  pub root : class_of_root item ≡ Some class_read
  pub written : bytes ≡ item_text item
  pub normal : IsNormalIn level class_read class_read item
