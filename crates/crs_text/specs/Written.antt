-- Written items: the text of an item without white space, and in square delimiters.
use Rattle.std.specs.Prelude.{ℕ, ◌+◌, ◌≤◌, true, List, [], ◌∷◌, ◌++◌, length}
use Rattle.crs_text.specs.Tokens.{IsWord, IsSingle, single_spelling}
use Rattle.crs_text.specs.Items.{Item, leaf, node, Siblings, End, More, depth, IsNode}
use Rattle.crs_text.specs.TextFault.{SpellsNode}

abbrev mutual
  -- an item's bytes without white space, with [ and ]
  pub item_text : Item → List ℕ
  item_text (leaf kind place raw) = single_spelling kind raw
  item_text (node place keyword square first others close) =
      keyword ++ 91 ∷ (item_text first ++ (others_text others ++ 93 ∷ []))

  -- the bytes of the items after a first one, a comma before each
  pub others_text : Siblings → List ℕ
  others_text End = []
  others_text (More item items) = 44 ∷ (item_text item ++ others_text items)

abbrev mutual
  -- each single token and each keyword in the item is well formed
  pub AreFormed : Item → Type 0
  AreFormed (leaf kind place raw) = IsSingle kind raw
  AreFormed (node place keyword square first others close) = IsWord keyword × AreFormed first × AreAllFormed others

  -- each single token and each keyword in these items is well formed
  pub AreAllFormed : Siblings → Type 0
  AreAllFormed End = Unit {0}
  AreAllFormed (More item items) = AreFormed item × AreAllFormed items

abbrev mutual
  -- the item as its written text has it from this place on, all delimiters square
  pub at_place : ℕ → Item → Item
  at_place start (leaf kind place raw) = leaf kind start raw
  at_place start (node place keyword square first others close) =
      node start keyword true (at_place (start + length keyword + 1) first)
      (at_places (start + length keyword + 1 + length (item_text first)) others)
      (start + length keyword + 1 + length (item_text first) + length (others_text others))

  -- the items as their written text has them, a comma before each, the first of these at this place
  pub at_places : ℕ → Siblings → Siblings
  at_places start End = End
  at_places start (More item items) =
      More (at_place (start + 1) item) (at_places (start + 1 + length (item_text item)) items)

-- the written text of a well-formed node spells just this node
abbrev pub WrittenSpells : Type 0
WrittenSpells =
    (item : Item) → AreFormed item → IsNode item → depth item ≤ 12 →
    SpellsNode (item_text item) (at_place 0 item)
