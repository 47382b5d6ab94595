-- A bridge: the pieces of which canonical items are made, lists in order, and usages and the ends of CRSs.
use Rattle.std.specs.Prelude.{◌≡◌, ℕ, List, [], ◌∷◌, true, ◌&&◌, nat_le, Bool, Option, Some, None, length, if◌then◌else◌, false, codes, pos, map}
use Rattle.std.specs.Cmp.Lexicographic.{slice_cmp}
use Rattle.std.specs.Ordering.{nat_cmp, match_ordering}
use Rattle.crs_value.specs.Sound.{Each}
use Rattle.std.specs.List.{list_all}
use Rattle.crs_decimal.specs.Numbers.{plain, is_digit, Value}
use Rattle.crs_text.specs.Items.{Item, leaf, node, Siblings, End, More}
use Rattle.crs_text.specs.Tokens.{number, text, word}
use Rattle.crs_text.specs.Written.{item_text}
use Rattle.crs_shape.specs.declared.unit_kind.UnitKind.{UnitKind}
use Rattle.crs_shape.specs.Words.{unit_word}
use Rattle.crs_value.specs.Values.{IdentParts, UnitParts, BoxParts, ExtentParts, UsageParts, TailParts}
use Rattle.crs_value.specs.Kept.{kept, kept_one}
use Rattle.crs_value.specs.declared.values.level.Level.{Level}
use Rattle.crs_same.specs.SameParts.{kind_as, or_metre, usages_of}
use Rattle.std.specs.Option.{option_map}
use Rattle.crs_shape.specs.declared.unit_kind.UnitKind.TheVariants as kinds
use Rattle.crs_value.specs.declared.values.level.Level.TheVariants as levels

-- one more member, unless one has its bytes
abbrev pub put : {A : Type 0} → (A → List ℕ) → A → List A → List A
put bytes x [] = x ∷ []
put bytes x (y ∷ ys) =
    match_ordering (slice_cmp nat_cmp (bytes x) (bytes y)) (x ∷ y ∷ ys) (y ∷ ys)
    (y ∷ put bytes x ys)

-- these members put among those that are in order, one after another
abbrev pub put_all : {A : Type 0} → (A → List ℕ) → List A → List A → List A
put_all bytes sorted [] = sorted
put_all bytes sorted (x ∷ xs) = put_all bytes (put bytes x sorted) xs

-- the members in ascending order of their bytes, one of those with equal bytes
abbrev pub in_order : {A : Type 0} → (A → List ℕ) → List A → List A
in_order bytes xs = put_all bytes [] xs

-- what is put in order stays so when that is done again, and functions that agree on each member of
-- a list agree on those of the list in order
pub record StaysInOrder {A : Type 0} (bytes : A → List ℕ) : Type 0 where
  pub twice : (xs : List A) → in_order bytes (in_order bytes xs) ≡ in_order bytes xs
  pub alike : (f g : A → A) (xs : List A) → Each (λ x. f x ≡ g x) xs → Each (λ x. f x ≡ g x) (in_order bytes xs)

-- ---- a bridge: the pieces of which canonical items are made. All places are 0, since a written text doesn't depend on them

-- the item of a quoted text, whose quotes are among these bytes
abbrev pub text_item : List ℕ → Item
text_item raw = leaf text 0 raw

-- the item of a word
abbrev pub word_item : List ℕ → Item
word_item raw = leaf word 0 raw

-- the item of a number, plainly written
abbrev pub number_item : Value → Item
number_item value = leaf number 0 (plain value)

-- the node of a keyword and its arguments, in square delimiters
abbrev pub node_of : List ℕ → Item → Siblings → Item
node_of keyword first others = node 0 keyword true first others 0

-- a node of these arguments; without any a word, which no text has there
abbrev pub node_from : List ℕ → Siblings → Item
node_from keyword End = word_item keyword
node_from keyword (More first others) = node_of keyword first others

-- the node of one quoted text, such as `SCOPE`
abbrev pub text_node : List ℕ → List ℕ → Item
text_node keyword raw = node_of keyword (text_item raw) End

-- the node of one number, such as `ORDER`
abbrev pub number_node : List ℕ → Value → Item
number_node keyword value = node_of keyword (number_item value) End

-- the item of a part that may be missing, before these others
abbrev pub opt : {A : Type 0} → (A → Item) → Option A → Siblings → Siblings
opt spell None rest = rest
opt spell (Some value) rest = More (spell value) rest

-- an item for each part of a list, before these others
abbrev pub each : {A : Type 0} → (A → Item) → List A → Siblings → Siblings
each spell [] rest = rest
each spell (value ∷ values) rest = More (spell value) (each spell values rest)

-- whether a code is written without quotes: it is 1 to 18 digits
abbrev pub is_short : List ℕ → Bool
is_short raw = list_all is_digit raw && nat_le 1 (length raw) && nat_le (length raw) 18

-- a code or a version: without quotes where it is 1 to 18 digits, else in quotes
abbrev pub code_item : List ℕ → Item
code_item raw = leaf (if is_short raw then number else text) 0 raw

-- ---- a bridge: identifiers and units in their one form, and as items

-- an identifier as a node: authority, code, version, citation, URI
abbrev pub item_ident : IdentParts → Item
item_ident i =
    node_of (codes "ID") (text_item i.authority) (More (code_item i.code)
    (opt code_item i.version
    (opt (text_node (codes "CITATION")) i.citation (opt (text_node (codes "URI")) i.uri End))))

-- the identifiers that the level keeps, as a set
unfoldable pub set_idents : Level → List IdentParts → List IdentParts
set_idents level identifiers = in_order (λ i. item_text (item_ident i)) (kept level identifiers)

-- the whole number k, where it doesn't end in a zero
abbrev pub whole_value : ℕ → Value
whole_value k = record { negative = false; digits = k; power = pos 0 }

-- a unit where this kind is asked, with the identifiers that the level keeps
abbrev pub norm_unit : Level → UnitKind → UnitParts → UnitParts
norm_unit level asked u =
    record {
      kind = kind_as asked u.kind;
      name = u.name;
      factor = u.factor;
      identifiers = set_idents level u.identifiers;
    }

-- a unit that may be missing, where this kind is asked
abbrev pub norm_units : Level → UnitKind → Option UnitParts → Option UnitParts
norm_units level asked None = None
norm_units level asked (Some u) = Some (norm_unit level asked u)

-- what a missing unit of length is
abbrev pub metre : UnitParts
metre = or_metre None

-- a unit of length; a missing one is the metre
abbrev pub norm_length : Level → Option UnitParts → UnitParts
norm_length level None = metre
norm_length level (Some u) = norm_unit level kinds.Length u

-- a unit as a node, under the keyword of its kind
abbrev pub item_unit : UnitParts → Item
item_unit u =
    node_of (unit_word u.kind) (text_item u.name)
    (More (number_item u.factor) (each item_ident u.identifiers End))

-- ---- a bridge: usages and the ends of CRSs in their one form, and as items

-- a vertical extent, with its unit written; in a usage the unit keeps its identifiers at each level
abbrev pub norm_extent : Level → ExtentParts → ExtentParts
norm_extent level e = record { minimum = e.minimum; maximum = e.maximum; unit = Some (norm_length level e.unit) }

-- a usage, with the unit of its vertical extent written
abbrev pub norm_usage : UsageParts → UsageParts
norm_usage u =
    record { scope = u.scope; area = u.area; bbox = u.bbox; extent = option_map (norm_extent levels.Full) u.extent }

-- a bounding box as a node: south, west, north, east
abbrev pub item_box : BoxParts → Item
item_box b =
    node_of (codes "BBOX") (number_item b.south)
    (More (number_item b.west) (More (number_item b.north) (More (number_item b.east) End)))

-- a vertical extent as a node: minimum, maximum, unit
abbrev pub item_extent : ExtentParts → Item
item_extent e =
    node_of (codes "VERTICALEXTENT") (number_item e.minimum)
    (More (number_item e.maximum) (opt item_unit e.unit End))

-- a usage as a node: scope, area, bounding box, vertical extent
abbrev pub item_usage : UsageParts → Item
item_usage u =
    node_from (codes "USAGE")
    (opt (text_node (codes "SCOPE")) u.scope (opt (text_node (codes "AREA")) u.area
    (opt item_box u.bbox (opt item_extent u.extent End))))

-- the usages that the level keeps, as a set
unfoldable pub set_usages : Level → List UsageParts → List UsageParts
set_usages level usages = in_order (λ u. item_text (item_usage u)) (map norm_usage (kept level usages))

-- the end of a CRS: the usages and identifiers that the level keeps, as sets, the bare parts as one more usage
abbrev pub norm_tail : Level → TailParts → TailParts
norm_tail level t = record {
  usages = set_usages level (usages_of t);
  bare_parts = None;
  identifiers = set_idents level t.identifiers;
  remark = kept_one level t.remark;
}

-- the end of a CRS as items: usages, identifiers, the remark
abbrev pub tail_items : TailParts → Siblings
tail_items t =
    each item_usage t.usages
    (each item_ident t.identifiers (opt (text_node (codes "REMARK")) t.remark End))
