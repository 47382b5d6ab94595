-- A reader that fills its room, as callers see it.
use Rattle.std.specs.Prelude.{◌≡◌, ◌⊎◌, ℕ, Bool, true, false, List, Option, Result, MatchResult}

-- the bytes that it has left where they are known, whether the reader below has shown its end, and
-- whether a failure of that reader is answered at the next read
pub record FillingState : Type 0 where
  pub remaining : Option (List ℕ)
  pub ended : Bool
  pub fails_next : Bool

-- a reader with these bytes left, of which nothing was read
abbrev pub fresh_filling : Option (List ℕ) → FillingState
fresh_filling remaining = record { remaining = remaining; ended = false; fails_next = false }

-- a read of this much room gives as many bytes, or fewer where the reader below has shown its end
-- or has failed; none is read past the end, and none where a failure is answered
pub record FillsRoom {E : Type 0} (old new : FillingState) (room : ℕ) (answer : Result ℕ E) : Type 0
  where
    pub fills : MatchResult answer
        (λ count. (old.fails_next ≡ false)
        × ((count ≡ room) ⊎ (new.ended ≡ true) ⊎ (new.fails_next ≡ true)))
        (λ _. (new.fails_next ≡ false) × (new.ended ≡ old.ended))
    pub end : old.ended ≡ true → new.ended ≡ true
