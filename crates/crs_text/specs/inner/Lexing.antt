-- A bridge: what begins what is left of a text: a token, or a flaw.
use Rattle.std.specs.Prelude.{◌≡◌, ℕ, ◌+◌, ◌≤◌, List, ◌∷◌, ◌++◌, length, take, drop, ◌<◌, IsUtf8}
use Rattle.crs_text.specs.Tokens.{StopsAt, IsShut, Kind, number, text, word, IsSingle, single_spelling, opening_byte, closing_byte, takes_byte}
use Rattle.crs_text.specs.TextFault.{IsFlaw}
use Rattle.crs_text.specs.declared.lexing.Lexed.{Lexed}
use Rattle.crs_text.specs.declared.lexing.Lexed.TheVariants.{Number, Text, Word, Comma, Opening, Closing, Flaw}

-- so many of the bytes are well-formed UTF-8
abbrev pub IsValidTo : List ℕ → ℕ → Type 0
IsValidTo bytes n = (n ≤ length bytes) × IsUtf8 (take n bytes)

-- the inside has this length
abbrev pub IsShutAt : List ℕ → ℕ → Type 0
IsShutAt after n = IsShut after (take n after) (drop (n + 1) after) × (n < length after)

-- what is left begins with a single token of these raw bytes, and the rest comes after it
pub record StandsBefore (kind : Kind) (raw left rest : List ℕ) : Type 0 where
  pub spelled : left ≡ single_spelling kind raw ++ rest
  pub formed : IsSingle kind raw
  pub ends : StopsAt (takes_byte kind) rest

-- the bytes begin with this token, whose raw bytes have this length, or with this flaw
abbrev pub IsLexed : List ℕ → Lexed → Type 0
IsLexed left (Number n) = StandsBefore number (take n left) left (drop n left) × (n ≤ length left)
IsLexed left (Text n) = StandsBefore text (take n (drop 1 left)) left (drop (n + 2) left) × (n + 2 ≤ length left)
IsLexed left (Word n) = StandsBefore word (take n left) left (drop n left) × (n ≤ length left)
IsLexed left Comma = left ≡ 44 ∷ drop 1 left
IsLexed left (Opening square) = left ≡ opening_byte square ∷ drop 1 left
IsLexed left (Closing square) = left ≡ closing_byte square ∷ drop 1 left
IsLexed left (Flaw reason skip) = IsFlaw reason left skip
