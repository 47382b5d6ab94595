-- Items: a single token, or a node, which is a word, an opening delimiter, one or more items
-- separated by commas, and the closing delimiter of the same kind.
use Rattle.std.specs.Prelude.{◌≡◌, ◌≢◌, ℕ, zero, suc, ◌+◌, ◌≤◌, max, Bool, Option, Some, None, List, [], ◌∷◌, ◌++◌, slice_index_or}
use Rattle.crs_decimal.specs.Numbers.{Denotes, Value, IsNormal, exact}
use Rattle.crs_text.specs.Keywords.{keyword_of}
use Rattle.crs_text.specs.declared.items.ItemKind.{ItemKind}
use Rattle.crs_text.specs.declared.items.ItemKind.TheVariants.{Number, Text, Word, Node}
use Rattle.crs_text.specs.declared.keyword.Keyword.{Keyword}
use Rattle.crs_text.specs.Tokens.{Kind, number, text, word, Token, single, comma, opening, closing}

mutual
  -- an item: a single token with its raw bytes, or a node with its keyword, its first argument and
  -- the others, and the place of its closing delimiter
  pub data Item : Type 0 where
    leaf : (kind : Kind) (place : ℕ) (raw : List ℕ) → Item
    node : (place : ℕ) (keyword : List ℕ) (square : Bool) (first : Item) (others : Siblings) (close : ℕ) → Item

  -- some items in order: none, or one and those after it
  pub data Siblings : Type 0 where
    End : Siblings
    More : Item → Siblings → Siblings

abbrev mutual
  -- the tokens of an item, in order
  pub tokens : Item → List Token
  tokens (leaf kind place raw) = single kind place raw ∷ []
  tokens (node place keyword square first others close) =
      single word place keyword ∷ opening square
      ∷ (tokens first ++ others_tokens others ++ closing close square ∷ [])

  -- the tokens of the items after a first one
  pub others_tokens : Siblings → List Token
  others_tokens End = []
  others_tokens (More item items) = comma ∷ (tokens item ++ others_tokens items)

abbrev mutual
  -- how many delimiters are open at most at once within an item
  pub depth : Item → ℕ
  depth (leaf kind place raw) = 0
  depth (node place keyword square first others close) = suc (max (depth first) (depths others))

  -- how many delimiters are open at most at once within one of these items
  pub depths : Siblings → ℕ
  depths End = 0
  depths (More item items) = max (depth item) (depths items)

-- the item is a node
abbrev pub IsNode : Item → Type 0
IsNode (leaf kind place raw) = ⊥
IsNode (node place keyword square first others close) = Unit {0}

-- the tokens are those of a node with at most 12 delimiters open at once
pub record AreNode (item : Item) (ts : List Token) : Type 0 where
  pub is_node : IsNode item
  pub within : depth item ≤ 12
  pub are : ts ≡ tokens item

-- these tokens begin with no opening delimiter, so that a word before them is an item by itself
abbrev pub BeginsNoNode : List Token → Type 0
BeginsNoNode [] = Unit {0}
BeginsNoNode (single kind place raw ∷ ts) = Unit {0}
BeginsNoNode (comma ∷ ts) = Unit {0}
BeginsNoNode (opening square ∷ ts) = ⊥
BeginsNoNode (closing place square ∷ ts) = Unit {0}

-- the items after an opening delimiter, in order
abbrev pub arguments : Item → Siblings
arguments (leaf kind place raw) = End
arguments (node place keyword square first others close) = More first others

-- how many items these are
abbrev pub count : Siblings → ℕ
count End = 0
count (More item items) = suc (count items)

-- the first of some items; where there is none, a word that no text has
abbrev pub first_of : Siblings → Item
first_of End = leaf word 0 []
first_of (More item items) = item

-- the items after the first
abbrev pub rest_of : Siblings → Siblings
rest_of End = End
rest_of (More item items) = items

-- the items after the first ones, as many as `n` says
abbrev pub skip : ℕ → Siblings → Siblings
skip zero items = items
skip (suc n) items = skip n (rest_of items)

-- an item's kind: a number, a text, a word or a node
abbrev pub kind_of_item : Item → ItemKind
kind_of_item (leaf number place raw) = Number
kind_of_item (leaf text place raw) = Text
kind_of_item (leaf word place raw) = Word
kind_of_item (node place keyword square first others close) = Node

-- the raw bytes of a single item, the keyword of a node
abbrev pub raw_of : Item → List ℕ
raw_of (leaf kind place raw) = raw
raw_of (node place keyword square first others close) = keyword

-- the keyword that raw bytes of this kind are; none where they are no keyword, or those of a number or text
abbrev pub keyword_at : ItemKind → List ℕ → Option Keyword
keyword_at Number raw = None
keyword_at Text raw = None
keyword_at Word raw = keyword_of raw
keyword_at Node raw = keyword_of raw

-- the keyword that a word or a node's word is
abbrev pub keyword_in : Item → Option Keyword
keyword_in item = keyword_at (kind_of_item item) (raw_of item)

-- the place of an item's first byte
abbrev pub place_of : Item → ℕ
place_of (leaf kind place raw) = place
place_of (node place keyword square first others close) = place

-- the place of a node's closing delimiter
abbrev pub close_of : Item → Option ℕ
close_of (leaf kind place raw) = None
close_of (node place keyword square first others close) = Some close

abbrev mutual
  -- how many items are in an item, itself included
  pub size_of : Item → ℕ
  size_of (leaf kind place raw) = 1
  size_of (node place keyword square first others close) = suc (size_of first + sizes others)

  -- how many items are in these items, themselves included
  pub sizes : Siblings → ℕ
  sizes End = 0
  sizes (More item items) = size_of item + sizes items

abbrev mutual
  -- the items within an item in the order in which they begin, each with the later arguments of its node
  pub inside : Item → List Siblings
  inside (leaf kind place raw) = []
  inside (node place keyword square first others close) = More first others ∷ (inside first ++ inside_items others)

  -- some items and those within them, likewise
  pub inside_items : Siblings → List Siblings
  inside_items End = []
  inside_items (More item items) = More item items ∷ (inside item ++ inside_items items)

-- item number `id` of a tree, in the order in which the items begin,
-- and the later arguments of its node; none if there are fewer
unfoldable pub here : Item → ℕ → Siblings
here tree id = slice_index_or (More tree End ∷ inside tree) id End

-- the tree has an item of this number
abbrev pub HasId : Item → ℕ → Type 0
HasId tree id = here tree id ≢ End

-- the number of the first of these items, which are in the tree; none where there are no such items
abbrev pub IsAt : Item → Siblings → Option ℕ → Type 0
IsAt tree items None = items ≡ End
IsAt tree items (Some id) = (here tree id ≡ items) × HasId tree id

-- the value of an item that is a number; none where it isn't one
abbrev pub IsNumberOf : Item → Option Value → Type 0
IsNumberOf item None = kind_of_item item ≢ Number
IsNumberOf item (Some value) = (kind_of_item item ≡ Number) × IsNormal value × Denotes (raw_of item) (exact value)
