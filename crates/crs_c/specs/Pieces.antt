-- A piece of a text as C has it.
use Rattle.std.specs.Prelude.{◌≡◌, ◌++◌, ◌-◌, ℕ, List, length, take, drop, replicate}
use Rattle.crs_c.specs.declared.calls.piece.Piece.{Piece}

-- the bytes of a text from an index on, 240 at most
abbrev pub piece_of : List ℕ → ℕ → List ℕ
piece_of text from = take 240 (drop from text)

-- a piece of this text is answered with code 0: its bytes at the front, and behind them zeros
unfoldable pub IsPiece : ℕ → Piece → List ℕ → Type 0
IsPiece from told text =
    (told.code ≡ 0) × (told.length ≡ length (piece_of text from))
    × (told.bytes ≡ piece_of text from ++ replicate (240 - length (piece_of text from)) 0)
