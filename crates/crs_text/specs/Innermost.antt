-- The innermost of the delimiters that are open where a text is refused.
use Rattle.std.specs.Prelude.{◌≡◌, ℕ, ◌+◌, Bool, List, ◌∷◌, ◌++◌, length, drop}
use Rattle.std.specs.List.{fold}
use Rattle.crs_text.specs.Tokens.{Token, opening, opening_byte, Fronts}
use Rattle.crs_text.specs.Viable.{open_after}

-- the tokens close each delimiter that they open, and no other: what is open before them is open after them
abbrev pub IsClosed : List Token → Type 0
IsClosed ts = (held : List Bool) → fold open_after held ts ≡ held

-- the innermost of the delimiters that are open after these first tokens of the text is at this
-- place: the tokens are those before it, the delimiter, and closed ones
pub record IsInnermost (text : List ℕ) (ts : List Token) (place : ℕ) : Type 0 where
  pub outer : List Token
  pub inner : List Token
  pub square : Bool
  pub parts : ts ≡ outer ++ opening square ∷ inner
  pub fronts : Fronts (length text) text outer (drop place text)
  pub stands : drop place text ≡ opening_byte square ∷ drop (place + 1) text
  pub closed : IsClosed inner
