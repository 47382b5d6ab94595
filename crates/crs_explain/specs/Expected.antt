-- What is expected where there are more or fewer axes than the dimension.
use Rattle.std.specs.Prelude.{◌+◌, ◌==◌, ◌++◌, ◌∷◌, [], ℕ, List, codes, decimal, if◌then◌else◌, ◌≡◌, Bool, Option, Some, None, MatchOption, filter, drop, slice_index_or, map, ◌≢◌}
use Rattle.crs_text.specs.Items.{Item, Siblings, End, More, arguments, first_of, skip, raw_of, place_of}
use Rattle.crs_explain.specs.Around.{crs_around, is_called, part_around}
use Rattle.crs_explain.specs.Found.{named_by, found_in, word_of, word_shown}
use Rattle.std.specs.List.{flat_map}
use denote.Enum.Bare.{sameb}
use Rattle.crs_text.specs.Keywords.{spelling_of}
use Rattle.crs_shape.specs.contracts.class.Class.{the_type}
use Rattle.crs_shape.specs.declared.class.Class.{Class}
use Rattle.crs_shape.specs.Keywords.{keywords_of, every_class}
use Rattle.crs_shape.specs.Expected.{ExpectedParts, ExpectedAtRoot, may_come}
use Rattle.crs_shape.specs.ShapeFault.{AtRoot, IsFree}
use Rattle.crs_shape.specs.Words.{direction_word, every_direction, every_type, system_word}
use Rattle.crs_text.specs.Refusal.{RefusedAt}
use Rattle.crs_text.specs.TextFault.{SpellsNode}
use Rattle.crs_shape.specs.FaultPlace.{IsShapeNumber}
use Rattle.crs_text.specs.declared.keyword.Keyword.TheVariants as keyword
use Rattle.crs_shape.specs.declared.class.Class.TheVariants as class
pub use Rattle.crs_explain.specs.Expectation.{Expectation}

-- how many of these items are axes
abbrev pub axes_among : Siblings → ℕ
axes_among End = 0
axes_among (More item items) = (if is_called keyword.Axis item then 1 else 0) + axes_among items

-- `1 axis`, `2 axes`
abbrev pub axes_text : ℕ → List ℕ
axes_text n = decimal n ++ (if n == 1 then codes " axis" else codes " axes")

-- in the CRS around the place its axes are found, and as many are expected as its dimension says, the
-- second argument of the `CS` there
abbrev pub axes_expectation : ℕ → Item → Expectation
axes_expectation place tree = record {
  node = named_by (raw_of (crs_around place tree));
  place = place_of (crs_around place tree);
  found = axes_text (axes_among (arguments (crs_around place tree)));
  names = raw_of (first_of (skip 1 (arguments (part_around place tree)))) ∷ [];
}

-- ---- what is found and what could come at a fault of shape

-- the names of a class: its first keyword, or what it is where it has none; the unit of an axis has two
abbrev pub class_names : Class → List (List ℕ)
class_names c =
    if sameb the_type c class.Number then codes "a number" ∷ []
    else (if sameb the_type c class.Text then codes "a text in quotes" ∷ []
    else (if sameb the_type c class.Word then codes "a word" ∷ []
    else (if sameb the_type c class.AxisUnit then codes "LENGTHUNIT" ∷ codes "ANGLEUNIT" ∷ []
    else spelling_of (slice_index_or (keywords_of c) 0 keyword.Id) ∷ [])))

-- the names of classes, and the end of the node where it may end
abbrev pub names_of : List Class → Bool → List (List ℕ)
names_of classes may_end = flat_map class_names classes ++ (if may_end then codes "its closing delimiter" ∷ [] else [])

-- the keyword of the node with which these bytes begin; nothing where it is of no class
abbrev pub node_word : Option Class → List ℕ → List ℕ
node_word None bytes = []
node_word (Some c) bytes = named_by (word_of bytes)

-- what begins at the place, and exactly the classes that could come in the node, in the order of the table
abbrev pub shape_expectation : List ℕ → ℕ → ExpectedParts → Expectation
shape_expectation text place e = record {
  node = node_word e.parent (drop e.place text);
  place = e.place;
  found = found_in (drop place text);
  names = names_of (filter (may_come e) every_class) e.may_end;
}

-- what is expected at the fault of shape of a text's item, if it has one
abbrev pub IsShapeExpected : List ℕ → ℕ → Item → Option Expectation → Type 0
IsShapeExpected text place item found = MatchOption found (IsFree (AtRoot item))
    (λ e. (parts : ExpectedParts) × ExpectedAtRoot item parts × (e ≡ shape_expectation text place parts))

-- ---- what is expected at a word that isn't known: the type of a coordinate system or the direction of an axis

-- in the `CS` around the place the word is found, and those of all types are expected; in an `AXIS` those
-- of all directions
abbrev pub word_expectation : List ℕ → ℕ → Item → Expectation
word_expectation text place tree = record {
  node = named_by (raw_of (part_around place tree));
  place = place_of (part_around place tree);
  found = word_shown (word_of (drop place text));
  names =
      if is_called keyword.Cs (part_around place tree) then map system_word every_type
      else map direction_word every_direction;
}

-- ---- what is expected at a refusal of a text

-- what is expected at a refusal of a text that spells this item: at its fault of shape, at a word that
-- isn't known (21), at a number of axes (25)
pub record IsExpectedIn (text : List ℕ) (refusal : RefusedAt) (item : Item) (found : Option Expectation) : Type 0 where
  pub shape : IsShapeNumber refusal.number → IsShapeExpected text refusal.place item found
  pub word : refusal.number ≡ 21 → found ≡ Some (word_expectation text refusal.place item)
  pub axes : refusal.number ≡ 25 → found ≡ Some (axes_expectation refusal.place item)
  pub other : ¬ (IsShapeNumber refusal.number) → refusal.number ≢ 21 → refusal.number ≢ 25 → found ≡ None

-- what is expected at a refusal of a text: nothing where it spells no item
pub record IsExpected (text : List ℕ) (refusal : RefusedAt) (found : Option Expectation) : Type 0 where
  pub of_item : (item : Item) → SpellsNode text item → IsExpectedIn text refusal item found
  pub of_none : ((item : Item) → ¬ (SpellsNode text item)) → found ≡ None
