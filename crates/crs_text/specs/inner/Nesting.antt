-- A bridge: the places of the delimiters that are open, the last opened first.
use Rattle.std.specs.Prelude.{◌≡◌, ℕ, ◌+◌, ◌≤◌, ◌⊎◌, Bool, Option, List, [], ◌∷◌, length, drop, MatchOption}
use Rattle.crs_text.specs.Tokens.{Token, single, comma, opening, closing, Forms, Fronts}
use Rattle.crs_text.specs.Viable.{IsViable, opens}
use Rattle.crs_text.specs.TextFault.{IsFlaw}
use Rattle.crs_text.specs.Innermost.{IsInnermost}
use Rattle.crs_text.specs.declared.refusal.Reason.{Reason}
use Rattle.crs_text.specs.declared.refusal.Reason.TheVariants.{NotUtf8}

-- the places after a token at this place
abbrev pub places_after : ℕ → List ℕ → Token → List ℕ
places_after at places (single kind place raw) = places
places_after at places comma = places
places_after at places (opening square) = at ∷ places
places_after at [] (closing place square) = []
places_after at (last ∷ places) (closing place square) = places

-- a token of n bytes is at this place, and is counted
pub record IsPassed (text : List ℕ) (at : ℕ) (before behind : List ℕ) (n : ℕ) : Type 0 where
  pub token : Token
  pub forms : Forms (length text) token (drop at text) (drop (at + n) text)
  pub places : behind ≡ places_after at before token
  pub within : at + n ≤ length text

-- nothing is counted at this place: there is a flaw, or an opening delimiter inside 12 open ones
abbrev pub IsHalted : List ℕ → ℕ → List ℕ → List ℕ → Type 0
IsHalted text at before behind =
    (behind ≡ before)
    × (((reason : Reason) × (skip : ℕ) × IsFlaw reason (drop at text) skip)
    ⊎ ((square : Bool) × (rest : List ℕ) × Forms (length text) (opening square) (drop at text) rest
    × (length before ≡ 12)))

-- after these viable tokens what is left begins at the place, or with a text whose UTF-8 is ill-formed there
pub record LeadsTo (text : List ℕ) (place : ℕ) (before : List Token) (left : List ℕ) : Type 0 where
  pub fronts : Fronts (length text) text before left
  pub viable : IsViable before
  pub skip : ℕ
  pub is_place : place + length left ≡ length text + skip
  pub flaw : (skip ≡ 0) ⊎ IsFlaw NotUtf8 left skip

-- the answer for all tokens that lead to the place
abbrev pub IsAnswered : List ℕ → ℕ → Option ℕ → Type 0
IsAnswered text place answer =
    (before : List Token) (left : List ℕ) → LeadsTo text place before left →
    MatchOption answer (opens before ≡ []) (IsInnermost text before)
