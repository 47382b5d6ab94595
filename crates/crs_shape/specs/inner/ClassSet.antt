-- A bridge: sets of classes, and of keywords, as words with a bit for each.
use Rattle.std.specs.Prelude.{◌≡◌, ℕ, Bool, ◌==◌, ◌^◌, List, [], ◌∷◌, map}
use Rattle.std.specs.Int.{bit_at}
use Rattle.std.specs.Int.RustNames.{bit_or}
use denote.Enum.Declared.{tag_of}
use Rattle.crs_text.specs.contracts.keyword.Keyword as keywords
use Rattle.crs_text.specs.declared.keyword.Keyword.{Keyword}
use Rattle.crs_shape.specs.contracts.class.Class as classes
use Rattle.crs_shape.specs.declared.class.Class.{Class}
use Rattle.crs_shape.specs.declared.slot.Slot.{Slot}
use Rattle.crs_shape.specs.Keywords.{keywords_of}

-- the word with these bits
abbrev pub word_of : List ℕ → ℕ
word_of [] = 0
word_of (i ∷ is) = bit_or (2 ^ i) (word_of is)

-- whether a word has a bit
abbrev pub has_bit : ℕ → ℕ → Bool
has_bit word i = bit_at word i == 1

-- the bit of a class: its place among the classes
abbrev pub bit_of : Class → ℕ
bit_of c = tag_of classes.the_type c

-- the word with the bits of these classes
abbrev pub set_of : List Class → ℕ
set_of cs = word_of (map bit_of cs)

-- a slot of the program has the set of its classes
abbrev pub HasSet : Slot → Type 0
HasSet slot = slot.set.bits ≡ set_of slot.classes.now

-- the bit of a keyword
abbrev pub keyword_bit : Keyword → ℕ
keyword_bit k = tag_of keywords.the_type k

-- the keywords of a class, as a set
abbrev pub keyword_set : Class → ℕ
keyword_set c = word_of (map keyword_bit (keywords_of c))
