-- A table over its source gives back the item whose rows it has, and the source has each row's raw
-- bytes.
use Rattle.std.proofs.Common.{◌≡◌, ℕ, suc, ◌+◌, ◌≤◌, ◌<◌, List, [], ◌∷◌, ◌++◌, length, take, drop, map, refl, sym, ◌∙◌, ap, subst, arith}
use Rattle.std.proofs.lemmas.List.{map-append, get_or-map}
use Rattle.std.proofs.lemmas.List.Elements.{All-nil, All-cons, All-append, All-get_or}
use Rattle.std.specs.List.{All}
use Rattle.crs_decimal.specs.inner.Prelude.{IsInBounds, IsFault}
use Rattle.crs_decimal.specs.declared.fault.NumberFault.{NumberFault}
use Rattle.crs_decimal.specs.declared.fault.NumberFault.TheVariants.{Malformed, Range}
use Rattle.crs_text.specs.Tokens.{Kind, number, word, Token, single, comma, opening, closing, IsFormed}
use Rattle.crs_text.specs.Items.{Item, leaf, node, Siblings, End, More, tokens, others_tokens, first_of, kind_of_item, raw_of, place_of, here, HasId}
use Rattle.crs_text.specs.inner.Table.{item_kind, leaf_row, rows, rows_of_items, row_of}
use Rattle.crs_text.specs.inner.Tree.{part_of, parts, parts_of_items, tree, tree-parts, raw_place, part, tree_of, StandsAt, TokenStands, EachToken, AllStand, IsTable}
use Rattle.crs_text.specs.declared.items.ItemKind.TheVariants.{Number}
use Rattle.crs_text.specs.declared.table.Row.{Row}
use Rattle.crs_text.proofs.rows.HereLemmas.{Here, items_at, heres, heres_in, heres_of}
use Rattle.crs_text.specs.Written.{AreFormed}
use Rattle.crs_text.proofs.rows.IdLemmas.{length-heres, items-at, lt_from_has}
use Rattle.crs_text.proofs.texts.WrittenLemmas.{formed_of}

pub each_left : (P : Token → Type 0) (a b : List Token) → EachToken P (a ++ b) → EachToken P a
each_left P [] b h = tt
each_left P (t ∷ a) b h = (h.0, each_left P a b h.1)

pub each_right : (P : Token → Type 0) (a b : List Token) → EachToken P (a ++ b) → EachToken P b
each_right P [] b h = h
each_right P (t ∷ a) b h = each_right P a b h.1

part-leaf : (source : List ℕ) (kind : Kind) (place : ℕ) (raw : List ℕ) (depth : ℕ) → TokenStands source (single kind place raw) →
    part source (leaf_row (item_kind kind) place raw depth) ≡ part_of (leaf kind place raw)
part-leaf source number place raw depth h = rw (← h.bytes) refl
part-leaf source kind place raw depth h = rw (← h.bytes) refl

mutual
  parts-rows : (item : Item) (source : List ℕ) (depth : ℕ) → AllStand source (tokens item) → map (part source) (rows depth item) ≡ parts item
  parts-rows (leaf kind place raw) source depth h = ap (λ p. p ∷ []) (part-leaf source kind place raw depth h.0)
  parts-rows (node place keyword square first others close) source depth h =
      let left = each_left (TokenStands source) (tokens first ++ others_tokens others) (closing close square ∷ []) h.1.1 in
      let a = parts-rows first source (suc depth) (each_left (TokenStands source) (tokens first) (others_tokens others) left) in
      let b = parts-rows_of_items others source (suc depth) (each_right (TokenStands source) (tokens first) (others_tokens others) left) in
      rw (← h.0.bytes) (simp (map-append, a, b))

  parts-rows_of_items : (items : Siblings) (source : List ℕ) (depth : ℕ) → AllStand source (others_tokens items) → map (part source) (rows_of_items depth items) ≡ parts_of_items items
  parts-rows_of_items End source depth h = refl
  parts-rows_of_items (More item items) source depth h =
      let a = parts-rows item source depth (each_left (TokenStands source) (tokens item) (others_tokens items) h.1) in
      let b = parts-rows_of_items items source depth (each_right (TokenStands source) (tokens item) (others_tokens items) h.1) in
      simp (map-append, a, b)

-- a table's tree is the item that it has the rows of
pub tree_of-rows : (source : List ℕ) (table : List Row) (item : Item) → IsTable source table item → tree_of source table ≡ item
unfolding tree_of
tree_of-rows source table item h =
    ap (λ rs. tree (map (part source) rs)) h.rows ∙ ap tree (parts-rows item source 0 h.stand) ∙ tree-parts item

pub table_of_tree : (source : List ℕ) (table : List Row) (item : Item) → IsTable source table item → IsTable source table (tree_of source table)
table_of_tree source table item h = subst (IsTable source table) (sym (tree_of-rows source table item h)) h

-- what holds of the tokens of a tree, and so of some of them that come one after another, and so of each item whose tokens
-- it holds of, holds of each item in the tree
module _ (Holds : List Token → Type 0) (cut_left : (a b : List Token) → Holds (a ++ b) → Holds a) (cut_right : (a b : List Token) → Holds (a ++ b) → Holds b)
    (Q : Item → Type 0) (own : (item : Item) → Holds (tokens item) → Q item) where
  abbrev Own : Here → Type 0
  Own h = Q h.item

  all-more : (item : Item) (items : Siblings) (depth : ℕ) → Holds (tokens item ++ others_tokens items) → (Holds (tokens item) → All Own (heres_in depth item)) →
      (Holds (others_tokens items) → All Own (heres_of depth items)) → All Own (heres_of depth (More item items))
  all-more item items depth h inside later =
      let one = cut_left (tokens item) _ h in
      All-cons Own (record { depth = depth; item = item; later = items }) (heres_in depth item ++ heres_of depth items) (own item one)
      (All-append Own (heres_in depth item) (heres_of depth items) (inside one) (later (cut_right (tokens item) _ h)))

  mutual
    all-heres_in : (item : Item) (depth : ℕ) → Holds (tokens item) → All Own (heres_in depth item)
    all-heres_in (leaf kind place raw) depth h = All-nil Own
    all-heres_in (node place keyword square first others close) depth h =
        let inner = cut_right (single word place keyword ∷ opening square ∷ []) (tokens first ++ others_tokens others ++ closing close square ∷ []) h in
        all-more first others (suc depth) (cut_left _ (closing close square ∷ []) inner) (all-heres_in first (suc depth)) (all-heres_of others (suc depth))

    all-heres_of : (items : Siblings) (depth : ℕ) → Holds (others_tokens items) → All Own (heres_of depth items)
    all-heres_of End depth h = All-nil Own
    all-heres_of (More item items) depth h = all-more item items depth (cut_right (comma ∷ []) _ h) (all-heres_in item depth) (all-heres_of items depth)

  pub item_of : (tree : Item) (id : ℕ) → Holds (tokens tree) → id < length (rows 0 tree) → Q (first_of (here tree id))
  item_of tree id h lt =
      let none : Here = record { depth = 0; item = tree; later = End } in
      let inner : id < length (heres tree) = omega (arith, length-heres tree) in
      rw (items-at tree id, get_or-map items_at (heres tree) id none End inner) (All-get_or Own (heres tree) id none inner (All-cons Own none (heres_in 0 tree) (own tree h) (all-heres_in tree 0 h)))

pub each_item : (P : Token → Type 0) (Q : Item → Type 0) → ((item : Item) → EachToken P (tokens item) → Q item) → (tree : Item) (id : ℕ) → EachToken P (tokens tree) →
    id < length (rows 0 tree) → Q (first_of (here tree id))
each_item P = item_of (EachToken P) (each_left P) (each_right P)

abbrev pub StandsHere : List ℕ → Item → Type 0
StandsHere source item = StandsAt source (raw_place (kind_of_item item) (place_of item)) (raw_of item)

pub stands_here : (source : List ℕ) (item : Item) → AllStand source (tokens item) → StandsHere source item
stands_here source (leaf number place raw) h = h.0
stands_here source item h = h.0

-- the raw bytes of the item whose row this is
module _ (source : List ℕ) (laid tree : Item) (id : ℕ) (row : Row) (stand : AllStand source (tokens laid)) (same : laid ≡ tree) (has : HasId tree id)
    (is : row ≡ row_of row.depth (first_of (here tree id))) where
  item-stands : StandsHere source (first_of (here tree id))
  item-stands = each_item (TokenStands source) (StandsHere source) (stands_here source) tree id (rw (← same) stand) (lt_from_has tree id has)

  pub raw-within : raw_place row.kind row.place + row.length ≤ length source
  raw-within = subst (λ r. raw_place r.kind r.place + r.length ≤ length source) (sym is) item-stands.within

  pub raw-is : take row.length (drop (raw_place row.kind row.place) source) ≡ raw_of (first_of (here tree id))
  raw-is = ap (λ r. take r.length (drop (raw_place r.kind r.place) source)) is ∙ sym item-stands.bytes

abbrev pub IsBoundedHere : Item → Type 0
IsBoundedHere item = kind_of_item item ≡ Number → IsInBounds (raw_of item)

bounded_here : (item : Item) → EachToken IsFormed (tokens item) → IsBoundedHere item
bounded_here (leaf number place raw) h = λ e. h.0.2
bounded_here item h = λ e. cc

-- each number of a tree is within the bounds
pub bounded : (laid tree : Item) (id : ℕ) → EachToken IsFormed (tokens laid) → laid ≡ tree → HasId tree id → IsBoundedHere (first_of (here tree id))
bounded laid tree id h same has = each_item IsFormed IsBoundedHere bounded_here tree id (rw (← same) h) (lt_from_has tree id has)

-- each item of a tree is well formed
pub formed : (laid tree : Item) (id : ℕ) → EachToken IsFormed (tokens laid) → laid ≡ tree → HasId tree id → AreFormed (first_of (here tree id))
formed laid tree id h same has = each_item IsFormed AreFormed formed_of tree id (rw (← same) h) (lt_from_has tree id has)

-- what is within the bounds has no fault
pub no_fault : (bytes : List ℕ) (fault : NumberFault) → IsInBounds bytes → IsFault bytes fault → ⊥
no_fault bytes Malformed h f = f (h.0, h.1)
no_fault bytes Range h f = f.1 h
