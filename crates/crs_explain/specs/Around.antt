-- Which argument of a CRS a place is in.
use Rattle.std.specs.Prelude.{ℕ, nat_le, Bool, false, Option, Some, None, if◌then◌else◌}
use denote.Enum.Bare.{sameb}
use Rattle.crs_text.specs.contracts.keyword.Keyword.{the_type}
use Rattle.crs_text.specs.declared.keyword.Keyword.{Keyword}
use Rattle.crs_text.specs.declared.keyword.Keyword.TheVariants as keyword
use Rattle.crs_text.specs.Items.{Item, Siblings, End, More, arguments, keyword_in, place_of}

-- whether it is this keyword
abbrev pub is_word : Keyword → Option Keyword → Bool
is_word k None = false
is_word k (Some found) = sameb the_type found k

-- whether an item is a node of this keyword
abbrev pub is_called : Keyword → Item → Bool
is_called k item = is_word k (keyword_in item)

-- the last of these items that begins at a place or before it; another item where none does
abbrev pub last_at : ℕ → Item → Siblings → Item
last_at place other End = other
last_at place other (More item items) = last_at place (if nat_le (place_of item) place then item else other) items

-- the argument of an item that is at or around a place
abbrev pub around : ℕ → Item → Item
around place item = last_at place item (arguments item)

-- the CRS that is around a place: that of the text, or one of the two of a compound
abbrev pub crs_around : ℕ → Item → Item
crs_around place tree = if is_called keyword.CompoundCrs tree then around place tree else tree

-- the argument of that CRS that is at or around the place, such as its `CS` or an `AXIS`
abbrev pub part_around : ℕ → Item → Item
part_around place tree = around place (crs_around place tree)
