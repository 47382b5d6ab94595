-- A bridge: how far a list of tokens has come towards a node:
-- the nodes that are open, each with what came before in it.
use Rattle.std.specs.Prelude.{ℕ, nat_lt, Bool, true, false, Option, Some, None, List, [], ◌∷◌, length}
use Rattle.std.specs.Option.{option_and_then}
use Rattle.std.specs.List.{fold}
use Rattle.crs_text.specs.Tokens.{Kind, number, text, word, Token, single, comma, opening, closing}
use Rattle.crs_text.specs.Items.{Item, leaf, node, Siblings, End, More, tokens}

-- an open node: its word, its delimiter, and the arguments that are complete, the last first
pub record Frame : Type 0 where
  pub place : ℕ
  pub keyword : List ℕ
  pub square : Bool
  pub before : List Item

-- how far the tokens have come, in the nodes that are open: an item must come; or a word has come,
-- which may begin a node; or an item is complete
pub data State : Type 0 where
  wants : List Frame → State
  worded : (place : ℕ) (raw : List ℕ) → List Frame → State
  after : Item → List Frame → State

-- the state before the first token
abbrev pub start : State
start = wants []

-- the node of these arguments: those before the item, the last of them first, the item, and those after it
abbrev pub gather : ℕ → List ℕ → Bool → List Item → Item → Siblings → ℕ → Item
gather place keyword square [] item later close = node place keyword square item later close
gather place keyword square (b ∷ before) item later close = gather place keyword square before b (More item later) close

-- a state where the test holds, else none
abbrev pub only_if : Bool → State → Option State
only_if true s = Some s
only_if false s = None

-- whether two delimiters are of one kind, square or round
abbrev pub same_square : Bool → Bool → Bool
same_square true true = true
same_square true false = false
same_square false true = false
same_square false false = true

-- the state after a number, a text or a word: the first two are complete, a word may begin a node yet
abbrev pub behind_leaf : Kind → ℕ → List ℕ → List Frame → State
behind_leaf number place raw fs = after (leaf number place raw) fs
behind_leaf text place raw fs = after (leaf text place raw) fs
behind_leaf word place raw fs = worded place raw fs

-- the state after a token that follows a complete item: a comma lets the next argument come, and the closing delimiter
-- of the node that the item is in completes that node; no other token is allowed
abbrev pub behind_item : Item → List Frame → Token → Option State
behind_item item [] t = None
behind_item item (f ∷ fs) (single kind place raw) = None
behind_item item (f ∷ fs) comma = Some (wants (record f { before = item ∷ f.before } ∷ fs))
behind_item item (f ∷ fs) (opening square) = None
behind_item item (f ∷ fs) (closing place square) =
    only_if (same_square square f.square)
    (after (gather f.place f.keyword f.square f.before item End place) fs)

-- the state after one token more, with no more than `limit` delimiters open; none where it isn't allowed
abbrev pub step : ℕ → State → Token → Option State
step limit (wants []) (single number place raw) = None
step limit (wants []) (single text place raw) = None
step limit (wants []) (single word place raw) = Some (worded place raw [])
step limit (wants (f ∷ fs)) (single kind place raw) = Some (behind_leaf kind place raw (f ∷ fs))
step limit (wants fs) t = None
step limit (worded place raw fs) (opening square) =
    only_if (nat_lt (length fs) limit) (wants
    (record { place = place; keyword = raw; square = square; before = [] } ∷ fs))
step limit (worded place raw fs) t = behind_item (leaf word place raw) fs t
step limit (after item fs) t = behind_item item fs t

-- the state after one token more, if those before were allowed and it is
abbrev pub move : ℕ → Option State → Token → Option State
move limit s t = option_and_then (λ n. step limit n t) s

-- the state after these tokens, if each of them was allowed
abbrev pub run : ℕ → State → List Token → Option State
run limit s ts = fold (move limit) (Some s) ts
