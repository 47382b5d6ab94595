-- The item that a text without white space spells, where it has square delimiters and no doubled quote.
use Rattle.std.proofs.Common.{ℕ, Bool, true, false, ◌==◌, List, [], ◌∷◌, reverse, fold, if◌then◌else◌}
use Rattle.crs_decimal.specs.inner.Prelude.{is_run_start}
use Rattle.crs_text.specs.inner.Prelude.{Item, leaf, Siblings, End, More, number, text, word}
use Rattle.crs_normal.specs.inner.SpelledItems.{node_from}

-- a node that is open: its keyword, and what comes before it in the node around it, the last first
record Open : Type 0 where
  pub keyword : List ℕ
  pub before : List Item

-- what was read so far: whether the place is within quotes, the bytes of a single item, the
-- arguments of the open node, each with the last first, and the open nodes
record Reader : Type 0 where
  pub quoted : Bool
  pub bytes : List ℕ
  pub arguments : List Item
  pub open_nodes : List Open

-- items with the last first, before others
abbrev siblings : List Item → Siblings → Siblings
siblings [] rest = rest
siblings (item ∷ items) rest = siblings items (More item rest)

-- the single item that bytes are, by the first of them
abbrev single : List ℕ → Item
single [] = leaf word 0 []
single (b ∷ bs) = leaf (if is_run_start b then number else word) 0 (b ∷ bs)

-- with the single item that ends here, where there is one
abbrev ended : List ℕ → List Item → List Item
ended [] items = items
ended (b ∷ bs) items = single (reverse (b ∷ bs)) ∷ items

abbrev reader : Bool → List ℕ → List Item → List Open → Reader
reader quoted bytes arguments open_nodes =
    record { quoted = quoted; bytes = bytes; arguments = arguments; open_nodes = open_nodes }

-- after a closing delimiter the node is the last argument of the one around it
abbrev closed : List Item → List Open → Reader
closed items [] = reader false [] items []
closed items (o ∷ os) = reader false [] (node_from o.keyword (siblings items End) ∷ o.before) os

-- after a quote, within quotes or outside
abbrev quote : Bool → Reader → Reader
quote true r = reader false [] (leaf text 0 (reverse r.bytes) ∷ r.arguments) r.open_nodes
quote false r = reader true [] r.arguments r.open_nodes

abbrev opened : Reader → Open
opened r = record { keyword = reverse r.bytes; before = r.arguments }

-- after a byte outside quotes: an opening delimiter, a comma, a closing one, or a byte of a single
-- item
abbrev outside : Reader → ℕ → Reader
outside r b =
    if b == 91 then reader false [] [] (opened r ∷ r.open_nodes)
    else if b == 44 then reader false [] (ended r.bytes r.arguments) r.open_nodes
    else if b == 93 then closed (ended r.bytes r.arguments) r.open_nodes
    else reader false (b ∷ r.bytes) r.arguments r.open_nodes

abbrev behind : Reader → ℕ → Reader
behind r b =
    if b == 34 then quote r.quoted r
    else if r.quoted then reader true (b ∷ r.bytes) r.arguments r.open_nodes
    else outside r b

abbrev first_item : List Item → Item
first_item [] = leaf word 0 []
first_item (item ∷ items) = item

abbrev pub item_of : List ℕ → Item
item_of bytes = first_item ((fold behind (reader false [] [] []) bytes).arguments)
