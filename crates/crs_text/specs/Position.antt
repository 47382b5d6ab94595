-- A place of a text as a person counts it: its line, and the character in the line.
use Rattle.std.specs.Prelude.{◌≡◌, ℕ, ◌+◌, ◌⊎◌, ◌&&◌, ◌==◌, nat_le, not, Bool, List, [], ◌∷◌, ◌++◌, length, count_by}
use Rattle.crs_text.specs.declared.position.Position.{Position}

-- how many line feeds are among the bytes
abbrev pub feeds : List ℕ → ℕ
feeds bytes = count_by (λ b. b == 10) bytes

-- a byte that goes on with a character of UTF-8
abbrev pub continues : ℕ → Bool
continues b = nat_le 128 b && nat_le b 191

-- how many characters begin in the bytes
abbrev pub characters : List ℕ → ℕ
characters bytes = count_by (λ b. not (continues b)) bytes

-- a line begins after these bytes: there are none, or the last is a line feed
abbrev pub BeginsLine : List ℕ → Type 0
BeginsLine before = (before ≡ []) ⊎ ((lines : List ℕ) × (before ≡ lines ++ 10 ∷ []))

-- a line ends before these bytes: there are none, or the first is a line feed
abbrev pub EndsLine : List ℕ → Type 0
EndsLine after = (after ≡ []) ⊎ ((lines : List ℕ) × (after ≡ 10 ∷ lines))

-- before the line of the place there are so many others, and before the place in its line so many
-- characters; a line goes from a line feed or the text's beginning to the next or its end
pub record IsPosition (text : List ℕ) (place : ℕ) (position : Position) : Type 0 where
  pub before : List ℕ
  pub left : List ℕ
  pub right : List ℕ
  pub after : List ℕ
  pub parts : text ≡ before ++ (left ++ (right ++ after))
  pub is_place : place ≡ length before + length left
  pub begins : BeginsLine before
  pub one_line : feeds (left ++ right) ≡ 0
  pub ends : EndsLine after
  pub is_line : position.line ≡ 1 + feeds before
  pub is_column : position.column ≡ 1 + characters left
  pub is_begin : position.begin ≡ length before
  pub is_end : position.end ≡ place + length right
