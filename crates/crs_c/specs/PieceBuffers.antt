-- What is in two buffers of the caller's after a call that answers pieces.
use Rattle.std.specs.Prelude.{◌≡◌, ◌==◌, ℕ, List, if◌then◌else◌}
use Rattle.crs_explain.specs.Pieces.{ends_from, joined}
use Rattle.crs_c.specs.Answers.{Answer}
use Rattle.crs_c.specs.Buffers.{Buffer, IsGiven}

-- the buffer for the bytes of all pieces, and the buffer for where each ends
pub record PieceBuffers : Type 0 where
  pub bytes : Buffer ℕ
  pub ends : Buffer ℕ

-- both, by what is in them and what the call answers of each
abbrev pub buffers_of : List ℕ → ℕ → List ℕ → ℕ → PieceBuffers
buffers_of out length ends count =
    record { bytes = record { items = out; told = length }; ends = record { items = ends; told = count } }

-- the pieces are given, their bytes one after the other and where each ends, with code 0; or one of
-- the buffers, or each, has too little room, with code 5
unfoldable pub AreGiven : List (List ℕ) → PieceBuffers → PieceBuffers → ℕ → Type 0
AreGiven pieces old new code =
    (first second : ℕ) × IsGiven (joined pieces) old.bytes new.bytes first
    × IsGiven (ends_from 0 pieces) old.ends new.ends second × (code ≡ (if first == 0 then second else first))

-- pieces like these are given, with their code, and the place of the refusal is as before
abbrev pub GivesPieces : (List (List ℕ) → Type 0) → Answer PieceBuffers
GivesPieces Like old new code =
    (pieces : List (List ℕ)) × Like pieces × AreGiven pieces old.answer new.answer code
    × (new.refused ≡ old.refused)
