-- Places: what a text's items hold lies within the text.
use Rattle.std.proofs.Common.{◌≡◌, ℕ, ◌≤◌, length, List, [], ◌∷◌, ◌++◌, sym, subst, arith}
use Rattle.crs_text.specs.inner.Prelude.{Token, single, comma, opening, closing, Forms, Fronts, Item, leaf, node, Siblings, End, More, arguments, place_of, tokens, others_tokens, RefusedAt, SpellsNode}
use Rattle.crs_value.specs.Spells.{IsFrom}

abbrev TokenWithin : ℕ → Token → Type 0
TokenWithin total (single kind place raw) = place ≤ total
TokenWithin total comma = Unit {0}
TokenWithin total (opening square) = Unit {0}
TokenWithin total (closing place square) = place ≤ total

abbrev TokensWithin : ℕ → List Token → Type 0
TokensWithin total [] = Unit {0}
TokensWithin total (t ∷ ts) = TokenWithin total t × TokensWithin total ts

token-within : (total : ℕ) (t : Token) (left rest : List ℕ) → Forms total t left rest → TokenWithin total t
token-within total (single kind place raw) left rest forms = omega (arith, forms.placed)
token-within total (closing place square) left rest forms = omega (arith, forms.placed)
token-within total other left rest forms = tt

fronts-within : (total : ℕ) (ts : List Token) (bytes left : List ℕ) → Fronts total bytes ts left → TokensWithin total ts
fronts-within total [] bytes left h = tt
fronts-within total (t ∷ ts) bytes left h = (token-within total t h.0 h.1 h.3, fronts-within total ts h.1 left h.4)

split-within : (total : ℕ) (ts us : List Token) → TokensWithin total (ts ++ us) → TokensWithin total ts × TokensWithin total us
split-within total [] us h = (tt, h)
split-within total (t ∷ ts) us h = let s = split-within total ts us h.1 in ((h.0, s.0), s.1)

abbrev mutual
  -- the places of an item and of all that is in it are within a text of this length
  pub Within : ℕ → Item → Type 0
  Within total (leaf kind place raw) = place ≤ total
  Within total (node place keyword square first others close) = (place ≤ total) × ((close ≤ total) × (Within total first × AreWithin total others))

  pub AreWithin : ℕ → Siblings → Type 0
  AreWithin total End = Unit {0}
  AreWithin total (More item items) = Within total item × AreWithin total items

mutual
  item-within : (total : ℕ) (item : Item) → TokensWithin total (tokens item) → Within total item
  item-within total (leaf kind place raw) h = h.0
  item-within total (node place keyword square first others close) h =
      let s = split-within total (tokens first ++ others_tokens others) (closing close square ∷ []) h.1.1 in
      let t = split-within total (tokens first) (others_tokens others) s.0 in
      (h.0, (s.1.0, (item-within total first t.0, items-within total others t.1)))

  items-within : (total : ℕ) (items : Siblings) → TokensWithin total (others_tokens items) → AreWithin total items
  items-within total End h = tt
  items-within total (More item items) h =
      let s = split-within total (tokens item) (others_tokens items) h.1 in (item-within total item s.0, items-within total items s.1)

pub node-within : (text : List ℕ) (item : Item) → SpellsNode text item → Within (length text) item
node-within text item spells =
    let P : List Token → Type 0 = λ ts. TokensWithin (length text) ts in
    item-within (length text) item (subst P spells.2.are (fronts-within (length text) spells.0 text [] spells.1))

pub place-within : (total : ℕ) (item : Item) → Within total item → place_of item ≤ total
place-within total (leaf kind place raw) h = h
place-within total (node place keyword square first others close) h = h.0

pub arguments-within : (total : ℕ) (item : Item) → Within total item → AreWithin total (arguments item)
arguments-within total (leaf kind place raw) h = tt
arguments-within total (node place keyword square first others close) h = h.1.1

-- ---- faults

-- a fault with a number of these and a place within a text of this length
abbrev pub Fine : ℕ → ℕ → ℕ → RefusedAt → Type 0
Fine low high total fault = IsFrom low high fault.number × (fault.place ≤ total)

pub fine-as : (low high total : ℕ) (fault other : RefusedAt) → fault ≡ other → Fine low high total other → Fine low high total fault
fine-as low high total fault other e h = subst (Fine low high total) (sym e) h
