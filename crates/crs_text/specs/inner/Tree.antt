-- A bridge: rows of a source as items: how many bytes their written form has, and the tree that they give.
use Rattle.std.specs.Prelude.{◌≡◌, ℕ, ◌+◌, Bool, true, List, [], ◌∷◌, ◌++◌, length, zero, suc, ◌≤◌, take, drop, map, refl}
use Rattle.crs_text.specs.Tokens.{Token, Fronts, number, text, word, single, comma, opening, closing, IsFormed}
use Rattle.crs_text.specs.declared.items.ItemKind.{ItemKind}
use Rattle.crs_text.specs.declared.items.ItemKind.TheVariants.{Number, Text, Word, Node}
use Rattle.crs_text.specs.declared.table.Row.{Row}
use Rattle.std.specs.Coded.{Coded, coded_ℕ, coded_bool, coded_list, coded×, code_by}
use Rattle.std.proofs.Common.{◌∙◌, ap, sym, append_assoc}
use Rattle.crs_text.specs.Items.{Item, leaf, node, Siblings, End, More, tokens, arguments, count, first_of, skip, kind_of_item, raw_of, place_of, IsNode}
use Rattle.crs_text.specs.inner.Table.{rows, square_of, close_place}

-- the bytes end the source
abbrev pub EndsIn : List ℕ → List ℕ → Type 0
EndsIn source bytes = (front : List ℕ) × (source ≡ front ++ bytes)

-- the tokens come one after another in the source
pub record AreLaid (source : List ℕ) (ts : List Token) : Type 0 where
  pub bytes : List ℕ
  pub left : List ℕ
  pub ends : EndsIn source bytes
  pub fronts : Fronts (length source) bytes ts left

-- how many bytes a written item has beside its raw ones and those of its arguments: two quotes, or two delimiters and
-- a comma between each two of so many arguments
abbrev pub bytes_beside : ItemKind → ℕ → ℕ
bytes_beside Number count = 0
bytes_beside Text count = 2
bytes_beside Word count = 0
bytes_beside Node count = count + 1

-- how many bytes the written items of these rows have
abbrev pub bytes_of_rows : List Row → ℕ
bytes_of_rows [] = 0
bytes_of_rows (r ∷ rs) = r.length + bytes_beside r.kind r.count + bytes_of_rows rs

-- the delimiters of a node are square
abbrev pub IsSquare : ItemKind → Bool → Type 0
IsSquare Number square = Unit {0}
IsSquare Text square = Unit {0}
IsSquare Word square = Unit {0}
IsSquare Node square = square ≡ true

-- all delimiters of these rows are square
abbrev pub AreSquare : List Row → Type 0
AreSquare [] = Unit {0}
AreSquare (r ∷ rs) = IsSquare r.kind r.square × AreSquare rs

-- ---- a bridge: the tree that rows give: how a table of rows over its source is seen as an item

-- the first items, as many as `n` says
abbrev pub only : ℕ → Siblings → Siblings
only zero items = End
only (suc n) End = End
only (suc n) (More item items) = More item (only n items)

-- an item apart from its arguments, of which it has `count`
pub record ItemPart : Type 0 where
  pub kind : ItemKind
  pub square : Bool
  pub place : ℕ
  pub raw : List ℕ
  pub close : ℕ
  pub count : ℕ

-- an item apart from its arguments
abbrev pub part_of : Item → ItemPart
part_of item = record {
  kind = kind_of_item item;
  square = square_of item;
  place = place_of item;
  raw = raw_of item;
  close = close_place item;
  count = count (arguments item);
}

abbrev mutual
  -- an item's parts in the order in which the items begin
  pub parts : Item → List ItemPart
  parts (leaf kind place raw) = part_of (leaf kind place raw) ∷ []
  parts (node place keyword square first others close) =
      part_of (node place keyword square first others close)
      ∷ (parts first ++ parts_of_items others)

  -- the parts of some items, in the order in which the items begin
  pub parts_of_items : Siblings → List ItemPart
  parts_of_items End = []
  parts_of_items (More item items) = parts item ++ parts_of_items items

-- an item of a part and its arguments
abbrev pub made : ItemPart → Siblings → Item
made p items = by_kind p.kind items
  where
    by_kind : ItemKind → Siblings → Item
    by_kind Number items = leaf number p.place p.raw
    by_kind Text items = leaf text p.place p.raw
    by_kind Word items = leaf word p.place p.raw
    by_kind Node End = leaf word p.place p.raw
    by_kind Node (More first others) = node p.place p.raw p.square first others p.close

-- the items that parts give, from the last to the first: each takes as many as it has arguments
abbrev pub forest : List ItemPart → Siblings
forest [] = End
forest (p ∷ ps) = More (made p (only p.count (forest ps))) (skip p.count (forest ps))

-- the item that parts give, which is the first of those that they give
abbrev pub tree : List ItemPart → Item
tree ps = first_of (forest ps)

-- some items, and others after them
abbrev pub join : Siblings → Siblings → Siblings
join End later = later
join (More item items) later = More item (join items later)

-- the first ones of joined items, as many as the former are, are the former
only-join : (items later : Siblings) → only (count items) (join items later) ≡ items
only-join End later = refl
only-join (More item items) later = ap (λ is. More item is) (only-join items later)

-- the joined items after the first ones, as many as the former are, are the later
skip-join : (items later : Siblings) → skip (count items) (join items later) ≡ later
skip-join End later = refl
skip-join (More item items) later = skip-join items later

mutual
  -- the parts of an item, before others, give the item and then what the others give
  forest-parts : (item : Item) (ps : List ItemPart) → forest (parts item ++ ps) ≡ More item (forest ps)
  forest-parts (leaf number place raw) ps = refl
  forest-parts (leaf text place raw) ps = refl
  forest-parts (leaf word place raw) ps = refl
  forest-parts (node place keyword square first others close) ps =
      let inner : forest ((parts first ++ parts_of_items others) ++ ps)
      ≡ More first (join others (forest ps)) =
      ap forest (append_assoc (parts first) (parts_of_items others) ps)
      ∙ forest-parts first (parts_of_items others ++ ps)
      ∙ ap (λ is. More first is) (forest-parts_of_items others ps) in
      let p = part_of (node place keyword square first others close) in
      let whole : More
      (made p (only p.count (forest ((parts first ++ parts_of_items others) ++ ps))))
      (skip p.count (forest ((parts first ++ parts_of_items others) ++ ps))) ≡
      More (made p (More first (only (count others) (join others (forest ps)))))
      (skip (count others) (join others (forest ps))) =
      ap (λ is. More (made p (only p.count is)) (skip p.count is)) inner in
      whole
      ∙ ap (λ is. More (made p (More first is)) (skip (count others) (join others (forest ps))))
      (only-join others (forest ps))
      ∙ ap (λ is. More (node place keyword square first others close) is)
      (skip-join others (forest ps))

  -- the parts of some items, before others, give the items and then what the others give
  forest-parts_of_items : (items : Siblings) (ps : List ItemPart) →
      forest (parts_of_items items ++ ps)
      ≡ join items (forest ps)
  forest-parts_of_items End ps = refl
  forest-parts_of_items (More item items) ps =
      ap forest (append_assoc (parts item) (parts_of_items items) ps)
      ∙ forest-parts item (parts_of_items items ++ ps)
      ∙ ap (λ is. More item is) (forest-parts_of_items items ps)

-- parts with none after them are the parts
append-none : (ps : List ItemPart) → ps ++ [] ≡ ps
append-none [] = refl
append-none (p ∷ ps) = ap (λ qs. p ∷ qs) (append-none ps)

-- parts give their item back
pub tree-parts : (item : Item) → tree (parts item) ≡ item
tree-parts item =
    ap (λ ps. first_of (forest ps)) (sym (append-none (parts item)))
    ∙ ap first_of (forest-parts item [])

-- the number by which an item's kind is stored
abbrev pub item_kind_number : ItemKind → ℕ
item_kind_number Number = 0
item_kind_number Text = 1
item_kind_number Word = 2
item_kind_number Node = 3

-- the kind of an item that a stored number means
abbrev pub item_kind_numbered : ℕ → ItemKind
item_kind_numbered zero = Number
item_kind_numbered (suc zero) = Text
item_kind_numbered (suc (suc zero)) = Word
item_kind_numbered (suc (suc (suc n))) = Node

-- a kind's stored number means that kind
pub item_kind_numbered-number : (kind : ItemKind) → item_kind_numbered (item_kind_number kind) ≡ kind
item_kind_numbered-number Number = refl
item_kind_numbered-number Text = refl
item_kind_numbered-number Word = refl
item_kind_numbered-number Node = refl

-- an item's kind is stored as its number
abbrev pub kind_code : Coded ItemKind
kind_code = code_by ℕ coded_ℕ item_kind_number item_kind_numbered item_kind_numbered-number

-- a part is stored as its fields, one after another
abbrev pub part_code : Coded ItemPart
part_code =
    code_by (ItemKind × (Bool × (ℕ × (List ℕ × (ℕ × ℕ)))))
    (coded× kind_code
    (coded× coded_bool (coded× coded_ℕ (coded× (coded_list coded_ℕ) (coded× coded_ℕ coded_ℕ)))))
    (λ p. (p.kind, (p.square, (p.place, (p.raw, (p.close, p.count))))))
    (λ t. record {
      kind = t.0;
      square = t.1.0;
      place = t.1.1.0;
      raw = t.1.1.1.0;
      close = t.1.1.1.1.0;
      count = t.1.1.1.1.1;
    })
    (λ _. refl)

-- an item is stored as its parts
abbrev pub item_code : Coded Item
item_code = code_by (List ItemPart) (coded_list part_code) parts tree tree-parts

-- where the raw bytes of an item begin: those of a quoted text after its quote
abbrev pub raw_place : ItemKind → ℕ → ℕ
raw_place Number place = place
raw_place Text place = suc place
raw_place Word place = place
raw_place Node place = place

-- the part that a row gives over its source
abbrev pub part : List ℕ → Row → ItemPart
part source r = record {
  kind = r.kind;
  square = r.square;
  place = r.place;
  raw = take r.length (drop (raw_place r.kind r.place) source);
  close = r.close;
  count = r.count;
}

-- the tree that rows give over their source
unfoldable pub tree_of : List ℕ → List Row → Item
tree_of source table = tree (map (part source) table)

-- the source has these bytes from this place on
pub record StandsAt (source : List ℕ) (place : ℕ) (raw : List ℕ) : Type 0 where
  pub within : place + length raw ≤ length source
  pub bytes : raw ≡ take (length raw) (drop place source)

-- the source has the raw bytes of a token at its place, those of a quoted text after its quote
abbrev pub TokenStands : List ℕ → Token → Type 0
TokenStands source (single number place raw) = StandsAt source place raw
TokenStands source (single text place raw) = StandsAt source (suc place) raw
TokenStands source (single word place raw) = StandsAt source place raw
TokenStands source comma = Unit {0}
TokenStands source (opening square) = Unit {0}
TokenStands source (closing place square) = Unit {0}

-- each of these tokens has the property
abbrev pub EachToken : (Token → Type 0) → List Token → Type 0
EachToken P [] = Unit {0}
EachToken P (t ∷ ts) = P t × EachToken P ts

-- the source has all these tokens
abbrev pub AllStand : List ℕ → List Token → Type 0
AllStand source ts = EachToken (TokenStands source) ts

-- the rows are those of a node whose tokens are well formed and in the source
pub record IsTable (source : List ℕ) (table : List Row) (item : Item) : Type 0 where
  pub rows : table ≡ rows 0 item
  pub stand : AllStand source (tokens item)
  pub formed : EachToken IsFormed (tokens item)
  pub laid : AreLaid source (tokens item)
  pub node : IsNode item
