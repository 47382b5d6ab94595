-- The lines of some bytes, and how long they are.
use Rattle.std.specs.Prelude.{◌≡◌, ◌⊎◌, ◌==◌, ◌++◌, ◌∷◌, [], ℕ, List, IsTrue, count_by, not, ◌+◌, ◌<◌, ◌≤◌, length}
use Rattle.std.specs.List.{list_all}
use Rattle.crs_text.specs.Tokens.{is_white}

-- ---- the lines of some bytes

-- no line feed is among the bytes
abbrev pub HasNoFeed : List ℕ → Type 0
HasNoFeed bytes = IsTrue (list_all (λ b. not (b == 10)) bytes)

-- the bytes have a first line, and others after its line feed
abbrev pub IsSplit : List ℕ → List ℕ → List ℕ → Type 0
IsSplit bytes line rest = (bytes ≡ line ++ 10 ∷ rest) × HasNoFeed line

-- the last byte is a return
abbrev pub EndsInReturn : List ℕ → Type 0
EndsInReturn bytes = (front : List ℕ) × (bytes ≡ front ++ 13 ∷ [])

-- the text of a line that ends at a line feed: its bytes before that, but for one return directly before the feed
abbrev pub IsTextOf : List ℕ → List ℕ → Type 0
IsTextOf bytes text = (bytes ≡ text ++ 13 ∷ []) ⊎ ((bytes ≡ text) × ¬ (EndsInReturn bytes))

-- the texts of all lines: a line ends at a line feed, and what follows the last feed is one if it has a byte
abbrev pub AreLines : List ℕ → List (List ℕ) → Type 0
AreLines bytes [] = bytes ≡ []
AreLines bytes (text ∷ texts) =
    ((line : List ℕ) × (rest : List ℕ) ×
    (bytes ≡ line ++ 10 ∷ rest) × HasNoFeed line × IsTextOf line text × AreLines rest texts)
    ⊎ ((¬ (bytes ≡ [])) × HasNoFeed bytes × (text ≡ bytes) × (texts ≡ []))

-- how many of the texts are white space alone, or nothing
abbrev pub blank_in : List (List ℕ) → ℕ
blank_in texts = count_by (λ text. list_all is_white text) texts

-- ---- how long the lines of some bytes are

-- no line has more than 1048576 bytes before its line feed, or before the end
unfoldable pub HasShortLines : List ℕ → Type 0
HasShortLines bytes = (front line rest : List ℕ) → bytes ≡ front ++ (line ++ rest) → HasNoFeed line
    → length line ≤ 1048576

-- the last byte is a line feed
abbrev pub EndsInFeed : List ℕ → Type 0
EndsInFeed bytes = (front : List ℕ) × (bytes ≡ front ++ 10 ∷ [])

-- how many line feeds are among the bytes
abbrev pub feeds : List ℕ → ℕ
feeds bytes = count_by (λ b. b == 10) bytes

-- the line of this number, counted from 1, is the first that is too long, and at most 65536 bytes
-- were read beyond its bound
pub record IsTooLong (bytes : List ℕ) (number : ℕ) : Type 0 where
  pub front : List ℕ
  pub long : List ℕ
  pub rest : List ℕ
  pub are_bytes : bytes ≡ front ++ (long ++ rest)
  pub begins : (front ≡ []) ⊎ EndsInFeed front
  pub is_one : HasNoFeed long
  pub is_long : 1048576 < length long
  pub is_soon : length long + length rest ≤ 1048576 + 65536
  pub before : HasShortLines front
  pub is_number : number ≡ feeds front + 1
