-- Tokens: quoted texts, well-formed UTF-8, single tokens, commas and delimiters; and the tokens of a text.
use Rattle.std.specs.Prelude.{◌≡◌, ℕ, ◌+◌, ◌==◌, Bool, IsTrue, IsFalse, List, [], ◌∷◌, ◌++◌, if◌then◌else◌, ◌⊎◌, ◌≤◌, length, take, IsUtf8, ◌&&◌, ◌||◌, nat_le, true, false}
use Rattle.std.specs.List.{list_all}
use Rattle.crs_decimal.specs.Numbers.{is_digit, is_run_byte, is_run_start, IsInBounds}

-- characters with each quote among them written twice
abbrev pub doubled : List ℕ → List ℕ
doubled [] = []
doubled (c ∷ cs) = if c == 34 then 34 ∷ 34 ∷ doubled cs else c ∷ doubled cs

-- what may be between the quotes of a text: its characters, each quote doubled
abbrev pub IsInside : List ℕ → Type 0
IsInside raw = (characters : List ℕ) × (raw ≡ doubled characters)

-- the bytes don't go on with one that passes this test
abbrev pub StopsAt : (ℕ → Bool) → List ℕ → Type 0
StopsAt takes [] = Unit {0}
StopsAt takes (b ∷ bs) = IsFalse (takes b)

-- the bytes begin with one that passes this test
abbrev pub BeginsWith : (ℕ → Bool) → List ℕ → Type 0
BeginsWith test [] = ⊥
BeginsWith test (b ∷ bs) = IsTrue (test b)

-- a quote
abbrev pub is_quote : ℕ → Bool
is_quote b = b == 34

-- the bytes after an opening quote are this inside, the closing quote, and the rest
pub record IsShut (after raw rest : List ℕ) : Type 0 where
  pub parts : after ≡ raw ++ 34 ∷ rest
  pub inside : IsInside raw
  pub ends : StopsAt is_quote rest

-- the bytes after an opening quote, through the closing quote or, where there is none, to the end
abbrev pub Through : List ℕ → List ℕ → Type 0
Through after inside =
    ((raw rest : List ℕ) × IsShut after raw rest × (inside ≡ raw ++ 34 ∷ []))
    ⊎ (IsInside after × (inside ≡ after))

-- ---- where bytes are well-formed UTF-8, and how far

-- some bytes after these complete them to well-formed UTF-8
abbrev pub IsUtf8Front : List ℕ → Type 0
IsUtf8Front bytes = (more : List ℕ) × IsUtf8 (bytes ++ more)

-- n is the length of the longest front of the bytes that is well-formed UTF-8
pub record IsLongestUtf8 (bytes : List ℕ) (n : ℕ) : Type 0 where
  pub within : n ≤ length bytes
  pub well_formed : IsUtf8 (take n bytes)
  pub longest : (m : ℕ) → m ≤ length bytes → IsUtf8 (take m bytes) → m ≤ n

-- ---- tokens: single ones (numbers, quoted texts and words), commas and the two kinds of delimiters; and the tokens of a text, with white space before, between and after them

-- the kinds of single tokens: numbers, quoted texts and words
pub data Kind : Type 0 where
  number text word : Kind

-- A token: a single one with its raw bytes, a comma, or an opening or closing delimiter, square or round. A place
-- counts bytes from the text's first, which is 0. The raw bytes of a quoted text are those between its quotes, each
-- quote inside still doubled; those of a number or word are the bytes themselves.
pub data Token : Type 0 where
  single : (kind : Kind) (place : ℕ) (raw : List ℕ) → Token
  comma : Token
  opening : (square : Bool) → Token
  closing : (place : ℕ) (square : Bool) → Token

-- white space: space, tab, CR and LF
abbrev pub is_white : ℕ → Bool
is_white b = b == 32 || b == 9 || b == 10 || b == 13

-- all bytes are white space
abbrev pub IsWhite : List ℕ → Type 0
IsWhite bytes = IsTrue (list_all is_white bytes)

-- a letter, A-Z or a-z
abbrev pub is_letter : ℕ → Bool
is_letter b = (nat_le 65 b && nat_le b 90) || (nat_le 97 b && nat_le b 122)

-- a byte that a word goes on with: a letter, a digit or an underscore
abbrev pub is_word_byte : ℕ → Bool
is_word_byte b = is_letter b || is_digit b || b == 95

-- a letter, and then letters, digits and underscores
abbrev pub IsWord : List ℕ → Type 0
IsWord [] = ⊥
IsWord (b ∷ bs) = IsTrue (is_letter b) × IsTrue (list_all is_word_byte bs)

-- the raw bytes of a single token: a run that is a number within the bounds, the inside of a text in UTF-8, a word
abbrev pub IsSingle : Kind → List ℕ → Type 0
IsSingle number raw = BeginsWith is_run_start raw × IsTrue (list_all is_run_byte raw) × IsInBounds raw
IsSingle text raw = IsInside raw × IsUtf8 raw
IsSingle word raw = IsWord raw

-- the bytes of a single token
abbrev pub single_spelling : Kind → List ℕ → List ℕ
single_spelling number raw = raw
single_spelling text raw = 34 ∷ raw ++ 34 ∷ []
single_spelling word raw = raw

-- the byte of an opening delimiter, [ or (
abbrev pub opening_byte : Bool → ℕ
opening_byte true = 91
opening_byte false = 40

-- the byte of a closing delimiter, ] or )
abbrev pub closing_byte : Bool → ℕ
closing_byte true = 93
closing_byte false = 41

-- the bytes of a token
abbrev pub spelling : Token → List ℕ
spelling (single kind place raw) = single_spelling kind raw
spelling comma = 44 ∷ []
spelling (opening square) = opening_byte square ∷ []
spelling (closing place square) = closing_byte square ∷ []

-- a single token's raw bytes are what its kind asks for
abbrev pub IsFormed : Token → Type 0
IsFormed (single kind place raw) = IsSingle kind raw
IsFormed comma = Unit {0}
IsFormed (opening square) = Unit {0}
IsFormed (closing place square) = Unit {0}

-- a byte that a token of this kind would take if it came next; for a text this is the quote, which would be doubled
abbrev pub takes_byte : Kind → ℕ → Bool
takes_byte number = is_run_byte
takes_byte text = is_quote
takes_byte word = is_word_byte

-- the rest begins with no byte that the token would take
abbrev pub Ends : Token → List ℕ → Type 0
Ends (single kind place raw) rest = StopsAt (takes_byte kind) rest
Ends comma rest = Unit {0}
Ends (opening square) rest = Unit {0}
Ends (closing place square) rest = Unit {0}

-- the place in the token is where these bytes, the last of a text of this length, begin
abbrev pub IsPlaced : ℕ → Token → List ℕ → Type 0
IsPlaced total (single kind place raw) left = place + length left ≡ total
IsPlaced total comma left = Unit {0}
IsPlaced total (opening square) left = Unit {0}
IsPlaced total (closing place square) left = place + length left ≡ total

-- what is left of a text of this length begins with the token, and the rest comes after it
pub record Forms (total : ℕ) (t : Token) (left rest : List ℕ) : Type 0 where
  pub spelled : left ≡ spelling t ++ rest
  pub formed : IsFormed t
  pub ends : Ends t rest
  pub placed : IsPlaced total t left

-- white space, and then these bytes, which begin with none
pub record IsAfterWhite (bytes left : List ℕ) : Type 0 where
  pub white : List ℕ
  pub parts : bytes ≡ white ++ left
  pub blank : IsWhite white
  pub ends : StopsAt is_white left

-- the bytes are the tokens with white space before, between and after them, and then what is left
abbrev pub Fronts : ℕ → List ℕ → List Token → List ℕ → Type 0
Fronts total bytes [] left = IsAfterWhite bytes left
Fronts total bytes (t ∷ ts) left =
    (at rest : List ℕ) × IsAfterWhite bytes at × Forms total t at rest × Fronts total rest ts left

-- the text is the tokens with white space before, between and after them
abbrev pub AreTokens : List ℕ → List Token → Type 0
AreTokens bytes ts = Fronts (length bytes) bytes ts []
