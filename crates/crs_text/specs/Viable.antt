-- What can still become a text, and which token may come next.
use Rattle.std.specs.Prelude.{◌≡◌, ℕ, ◌<◌, ◌⊎◌, Bool, Option, Some, None, List, [], ◌∷◌, ◌++◌, length}
use Rattle.std.specs.List.{fold, last_or}
use Rattle.crs_text.specs.Tokens.{number, text, word, Token, single, comma, opening, closing}
use Rattle.crs_text.specs.Items.{Item, IsNode, AreNode, tokens}

-- some tokens after these complete them to one node
abbrev pub IsViable : List Token → Type 0
IsViable ts = (more : List Token) × (item : Item) × AreNode item (ts ++ more)

-- some tokens after these complete them to one node, however many delimiters are open at once
abbrev pub IsViableAtAnyDepth : List Token → Type 0
IsViableAtAnyDepth ts = (more : List Token) × (item : Item) × IsNode item × (ts ++ more ≡ tokens item)

-- the delimiters that are open after one more token: an opening one is added, a closing one takes the last opened away
abbrev pub open_after : List Bool → Token → List Bool
open_after held (single kind place raw) = held
open_after held comma = held
open_after held (opening square) = square ∷ held
open_after [] (closing place square) = []
open_after (last ∷ held) (closing place square) = held

-- the kinds of the delimiters that are open after these tokens, the last opened first
abbrev pub opens : List Token → List Bool
opens ts = fold open_after [] ts

-- the last of these tokens; none where there are none
abbrev pub last_of : List Token → Option Token
last_of ts = last_or None ts

-- the token is a word
abbrev pub IsWordToken : Token → Type 0
IsWordToken (single number place raw) = ⊥
IsWordToken (single text place raw) = ⊥
IsWordToken (single word place raw) = Unit {0}
IsWordToken comma = ⊥
IsWordToken (opening square) = ⊥
IsWordToken (closing place square) = ⊥

-- the token is a number, a text or a word
abbrev pub IsSingleToken : Token → Type 0
IsSingleToken (single kind place raw) = Unit {0}
IsSingleToken comma = ⊥
IsSingleToken (opening square) = ⊥
IsSingleToken (closing place square) = ⊥

-- the token is an opening delimiter
abbrev pub IsOpening : Token → Type 0
IsOpening (single kind place raw) = ⊥
IsOpening comma = ⊥
IsOpening (opening square) = Unit {0}
IsOpening (closing place square) = ⊥

-- a comma, or the closing delimiter of an opening one of this kind
abbrev pub GoesOn : Bool → Token → Type 0
GoesOn square (single kind place raw) = ⊥
GoesOn square comma = Unit {0}
GoesOn square (opening other) = ⊥
GoesOn square (closing place other) = other ≡ square

-- which token may follow a last one, with these delimiters open
abbrev pub MayFollow : Option Token → List Bool → Token → Type 0
-- at the start a word
MayFollow None held t = IsWordToken t
-- after an opening delimiter or a comma a number, text or word
MayFollow (Some (opening _)) held t = IsSingleToken t
MayFollow (Some comma) held t = IsSingleToken t
-- after the root's word an opening delimiter
MayFollow (Some (single word _ _)) [] t = IsOpening t
-- after any other word a comma, the closing delimiter of the
-- last open one, or an opening one where fewer than 12 are open
MayFollow (Some (single word _ _)) (square ∷ held) t = GoesOn square t ⊎ (IsOpening t × (length (square ∷ held) < 12))
-- after the root's end nothing
MayFollow (Some _) [] t = ⊥
-- after any other token a comma or the closing delimiter of the last open one
MayFollow (Some _) (square ∷ held) t = GoesOn square t

-- this token may follow these tokens, which are viable
abbrev pub Allows : List Token → Token → Type 0
Allows ts t = MayFollow (last_of ts) (opens ts) t

-- the last token is a word, and 12 delimiters are open
abbrev pub IsFull : List Token → Type 0
IsFull ts =
    (place : ℕ) × (raw : List ℕ) × (last_of ts ≡ Some (single word place raw))
    × (length (opens ts) ≡ 12)
