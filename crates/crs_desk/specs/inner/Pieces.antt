-- A bridge: what a feeder holds of a text that is read piece by piece.
use Rattle.std.specs.Prelude.{◌≡◌, ◌⊎◌, ◌++◌, ℕ, Bool, true, false, List}
use Rattle.crs_text.specs.TextFault.{IsSettledRefusal}
use Rattle.crs_streams.specs.Streams.{SourceState}
use Rattle.crs_desk.specs.Whole.{IsWhole}

-- what is held is the front of a text, and its refusal is settled
pub record IsRefusedFront (text held : List ℕ) : Type 0 where
  pub number : ℕ
  pub place : ℕ
  pub behind : List ℕ
  pub is_settled : IsSettledRefusal held number place
  pub is_front : text ≡ held ++ behind

-- what is held of the text so far, whether a refusal is settled or not
abbrev pub IsHeld : Bool → List ℕ → List ℕ → Type 0
IsHeld false text held = held ≡ text
IsHeld true text held = IsRefusedFront text held

-- the text is held, or a front of it that is enough to refuse it
abbrev pub IsWholeHeld : List ℕ → List ℕ → Type 0
IsWholeHeld text held = (held ≡ text) ⊎ IsRefusedFront text held

-- the source gave a whole text, and this is held of it
pub record IsHeldOf (old new : SourceState) (held : List ℕ) : Type 0 where
  pub text : List ℕ
  pub is_whole : IsWhole old new text
  pub is_held : IsWholeHeld text held
