-- What is written without white space is read as it was.
use Rattle.std.proofs.Common.{◌≡◌, ℕ, ◌+◌, true, List, [], ◌∷◌, ◌++◌, length, refl, sym, subst, append_assoc, arith}
use Rattle.std.proofs.lemmas.List.{append-nil, length-append}
use Rattle.crs_text.specs.Tokens.{StopsAt, Kind, number, text, word, Token, single, comma, opening, closing, is_white, IsWord, IsSingle, single_spelling, takes_byte, IsFormed, Forms, Fronts}
use Rattle.crs_text.specs.Items.{Item, leaf, node, Siblings, End, More, tokens, others_tokens, depth, depths, IsNode}
use Rattle.crs_text.specs.TextFault.{SpellsNode}
use Rattle.crs_text.specs.inner.Tree.{EachToken}
use Rattle.crs_text.specs.Written.{item_text, others_text, AreFormed, AreAllFormed, at_place, at_places, WrittenSpells}
use Rattle.crs_text.proofs.tokens.TokenLemmas.{dark_start, dark_word, at_once}
use Rattle.crs_text.proofs.tokens.ViableLemmas.{node_tokens}

abbrev mutual
  -- the items are equal but for places and the kind of delimiters
  pub SameItem : Item → Item → Type 0
  SameItem (leaf kind place raw) (leaf other_kind other_place other_raw) =
      (kind ≡ other_kind) × (raw ≡ other_raw)
  SameItem (leaf kind place raw)
      (node other_place other_keyword other_square other_first rest other_close) = ⊥
  SameItem (node place keyword square first others close) (leaf other_kind other_place other_raw) =
      ⊥
  SameItem (node place keyword square first others close)
      (node other_place other_keyword other_square other_first rest other_close) =
      (keyword ≡ other_keyword) × SameItem first other_first × SameItems others rest

  -- the items are equal one by one, but for places and the kind of delimiters
  pub SameItems : Siblings → Siblings → Type 0
  SameItems End End = Unit {0}
  SameItems End (More other rest) = ⊥
  SameItems (More item items) End = ⊥
  SameItems (More item items) (More other rest) = SameItem item other × SameItems items rest

-- no token goes on into these bytes
abbrev IsApart : List ℕ → Type 0
IsApart rest = (kind : Kind) → StopsAt (takes_byte kind) rest

apart_none : IsApart []
apart_none kind = tt

apart_comma : (rest : List ℕ) → IsApart (44 ∷ rest)
apart_comma rest number = refl
apart_comma rest kind = refl

apart_close : (rest : List ℕ) → IsApart (93 ∷ rest)
apart_close rest number = refl
apart_close rest kind = refl

apart_others : (others : Siblings) (rest : List ℕ) → IsApart rest → IsApart (others_text others ++ rest)
apart_others End rest apart = apart
apart_others (More item items) rest apart = apart_comma ((item_text item ++ others_text items) ++ rest)

-- a single token is there at once
dark_single : (kind : Kind) (raw rest : List ℕ) → IsSingle kind raw → StopsAt is_white (single_spelling kind raw ++ rest)
dark_single number raw rest h = dark_start raw rest h.0
dark_single text raw rest h = refl
dark_single word raw rest h = dark_word raw rest h

front : (total : ℕ) (t : Token) (ts : List Token) (left rest end : List ℕ) → StopsAt is_white left → Forms total t left rest → Fronts total rest ts end → Fronts total left (t ∷ ts) end
front total t ts left rest end dark forms more = (left, rest, at_once left dark, forms, more)

front_keyword : (total place : ℕ) (keyword rest end : List ℕ) (ts : List Token) → IsWord keyword → place + length (keyword ++ 91 ∷ rest) ≡ total
    → Fronts total rest ts end → Fronts total (keyword ++ 91 ∷ rest) (single word place keyword ∷ opening true ∷ ts) end
front_keyword total place keyword rest end ts formed placed more =
    front total (single word place keyword) (opening true ∷ ts) (keyword ++ 91 ∷ rest) (91 ∷ rest) end (dark_word keyword (91 ∷ rest) formed)
    (record { spelled = refl; formed = formed; ends = refl; placed = placed })
    (front total (opening true) ts (91 ∷ rest) rest end refl (record { spelled = refl; formed = tt; ends = tt; placed = tt }) more)

-- the bytes and tokens of a node, grouped to the right
node_bytes : (keyword first others rest : List ℕ) → (keyword ++ 91 ∷ (first ++ (others ++ 93 ∷ []))) ++ rest ≡ keyword ++ 91 ∷ (first ++ (others ++ 93 ∷ rest))
node_bytes keyword first others rest = simp append_assoc

mutual
  front_item : (total place : ℕ) (item : Item) (rest end : List ℕ) (ts : List Token) → AreFormed item → IsApart rest → place + length (item_text item ++ rest) ≡ total
      → Fronts total rest ts end → Fronts total (item_text item ++ rest) (tokens (at_place place item) ++ ts) end
  front_item total place (leaf kind here raw) rest end ts formed apart placed more =
      front total (single kind place raw) ts _ rest end (dark_single kind raw rest formed) (record { spelled = refl; formed = formed; ends = apart kind; placed = placed }) more
  front_item total place (node here keyword square first others close) rest end ts formed apart placed more =
      let start = place + length keyword + 1 in
      let at = start + length (item_text first) + length (others_text others) in
      let long = simp (append_assoc, length-append) at placed in
      let closed = front total (closing at true) ts (93 ∷ rest) rest end refl (record { spelled = refl; formed = tt; ends = tt; placed = omega arith }) more in
      let later = front_items total (start + length (item_text first)) others (93 ∷ rest) end (closing at true ∷ ts) formed.2 (apart_close rest) (simp length-append (omega arith)) closed in
      let all = front_item total start first (others_text others ++ 93 ∷ rest) end (others_tokens (at_places (start + length (item_text first)) others) ++ closing at true ∷ ts) formed.1
      (apart_others others (93 ∷ rest) (apart_close rest)) (simp length-append (omega arith)) later in
      rw (node_bytes, node_tokens (tokens (at_place start first)) (others_tokens (at_places (start + length (item_text first)) others)) (closing at true) ts)
      (front_keyword total place keyword (item_text first ++ (others_text others ++ 93 ∷ rest)) end _ formed.0 (simp length-append (omega arith)) all)

  front_items : (total place : ℕ) (items : Siblings) (rest end : List ℕ) (ts : List Token) → AreAllFormed items → IsApart rest → place + length (others_text items ++ rest) ≡ total
      → Fronts total rest ts end → Fronts total (others_text items ++ rest) (others_tokens (at_places place items) ++ ts) end
  front_items total place End rest end ts formed apart placed more = more
  front_items total place (More item items) rest end ts formed apart placed more =
      let start = place + 1 in
      let long = simp length-append at placed in
      let later = front_items total (start + length (item_text item)) items rest end ts formed.1 apart (simp length-append (omega arith)) more in
      let all = front_item total start item (others_text items ++ rest) end (others_tokens (at_places (start + length (item_text item)) items) ++ ts) formed.0 (apart_others items rest apart)
      (simp length-append (omega arith)) later in
      rw (append_assoc, append_assoc (tokens (at_place start item)) (others_tokens (at_places (start + length (item_text item)) items)) ts)
      (front total comma _ (44 ∷ (item_text item ++ (others_text items ++ rest))) _ end refl (record { spelled = refl; formed = tt; ends = tt; placed = tt }) all)

-- ---- what a text spells is formed

abbrev AllFormed : List Token → Type 0
AllFormed ts = EachToken IsFormed ts

pub fronts_formed : (total : ℕ) (bytes left : List ℕ) (ts : List Token) → Fronts total bytes ts left → AllFormed ts
fronts_formed total bytes left [] p = tt
fronts_formed total bytes left (t ∷ ts) p = (p.3.formed, fronts_formed total p.1 left ts p.4)

mutual
  formed_item : (item : Item) (rest : List Token) → AllFormed (tokens item ++ rest) → AreFormed item × AllFormed rest
  formed_item (leaf kind place raw) rest all = all
  formed_item (node place keyword square first others close) rest all =
      let f = formed_item first (others_tokens others ++ closing close square ∷ rest) (rw (node_tokens (tokens first) (others_tokens others) (closing close square) rest) at all.1.1) in
      let g = formed_items others (closing close square ∷ rest) f.1 in
      ((all.0, f.0, g.0), g.1.1)

  formed_items : (items : Siblings) (rest : List Token) → AllFormed (others_tokens items ++ rest) → AreAllFormed items × AllFormed rest
  formed_items End rest all = (tt, all)
  formed_items (More item items) rest all =
      let f = formed_item item (others_tokens items ++ rest) (rw (append_assoc (tokens item) (others_tokens items) rest) at all.1) in
      let g = formed_items items rest f.1 in
      ((f.0, g.0), g.1)

pub formed_of : (item : Item) → EachToken IsFormed (tokens item) → AreFormed item
formed_of item all = (formed_item item [] (subst AllFormed (sym (append-nil (tokens item))) all)).0

-- the tokens of an item that a text spells are formed
pub spelled_formed : (bytes : List ℕ) (item : Item) → SpellsNode bytes item → AreFormed item
spelled_formed bytes item (ts, are, of_node) = formed_of item (subst AllFormed of_node.are (fronts_formed (length bytes) bytes [] ts are))

-- ---- places make no difference

mutual
  pub depth-at_place : (place : ℕ) (item : Item) → depth (at_place place item) ≡ depth item
  depth-at_place place (leaf kind here raw) = refl
  depth-at_place place (node here keyword square first others close) = rw (depth-at_place (place + length keyword + 1) first, depths-at_places _ others)

  depths-at_places : (place : ℕ) (items : Siblings) → depths (at_places place items) ≡ depths items
  depths-at_places place End = refl
  depths-at_places place (More item items) = rw (depth-at_place (place + 1) item, depths-at_places _ items)

mutual
  pub at_place-same : (place : ℕ) (item : Item) → SameItem item (at_place place item)
  at_place-same place (leaf kind here raw) = (refl, refl)
  at_place-same place (node here keyword square first others close) =
      (refl, at_place-same (place + length keyword + 1) first, at_places-same (place + length keyword + 1 + length (item_text first)) others)

  at_places-same : (place : ℕ) (items : Siblings) → SameItems items (at_places place items)
  at_places-same place End = tt
  at_places-same place (More item items) = (at_place-same (place + 1) item, at_places-same (place + 1 + length (item_text item)) items)

mutual
  pub same_text : (a b : Item) → SameItem a b → item_text a ≡ item_text b
  same_text (leaf kind place raw) (leaf kind2 place2 raw2) same = rw (same.0, same.1)
  same_text (node place keyword square first others close) (node place2 keyword2 square2 first2 others2 close2) same =
      rw (same.0, same_text first first2 same.1, same_texts others others2 same.2)
  same_text a b same = absurd same

  same_texts : (a b : Siblings) → SameItems a b → others_text a ≡ others_text b
  same_texts End End same = refl
  same_texts (More item items) (More item2 items2) same = rw (same_text item item2 same.0, same_texts items items2 same.1)
  same_texts a b same = absurd same

pub item_text-at_place : (place : ℕ) (item : Item) → item_text (at_place place item) ≡ item_text item
item_text-at_place place item = sym (same_text item (at_place place item) (at_place-same place item))

at_place-node : (place : ℕ) (item : Item) → IsNode item → IsNode (at_place place item)
at_place-node place (leaf kind here raw) h = h
at_place-node place (node here keyword square first others close) h = tt

-- ---- the law

pub written_spells : WrittenSpells
written_spells item formed is_node within =
    let whole = item_text item in
    let fronts = front_item (length whole) 0 item [] [] [] formed apart_none (simp append-nil (omega arith)) (at_once [] tt) in
    (tokens (at_place 0 item), rw (append-nil, append-nil) at fronts, record { is_node = at_place-node 0 item is_node; within = omega (arith, depth-at_place 0 item, within); are = refl })
