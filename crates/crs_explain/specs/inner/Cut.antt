-- A bridge: the texts that end at these places of bytes.
use Rattle.std.specs.Prelude.{◌-◌, ◌∷◌, [], ℕ, List, take, drop}

-- bytes from a place on, cut where each text ends
abbrev pub cut : ℕ → List ℕ → List ℕ → List (List ℕ)
cut place bytes [] = []
cut place bytes (end ∷ ends) = take (end - place) bytes ∷ cut end (drop (end - place) bytes) ends
