-- A bridge: the keywords by the length of their spelling, for a quick look-up.
use Rattle.std.specs.Prelude.{◌≡◌, ◌==◌, ◌&&◌, nat_le, ℕ, Bool, IsTrue, length, filter, take, Option, Some, None, List, [], ◌∷◌, if◌then◌else◌}
use Rattle.std.specs.List.{list_all}
use Rattle.std.specs.Str.{str_eq_ignore_ascii_case}
use Rattle.crs_text.specs.Keywords.{spelling_of, every_keyword, keyword_of}
use Rattle.crs_text.specs.declared.keyword.Keyword.{Keyword}
use Rattle.crs_text.specs.declared.keyword.Spelling.{Spelling}
use Rattle.crs_text.specs.declared.keyword.Suspect.{Suspect}

-- a keyword and its spelling
pub record Spelled : Type 0 where
  pub word : List ℕ
  pub named : Keyword

-- a spelling of the program, as such a record
abbrev pub as_spelled : Spelling → Spelled
as_spelled s = record { word = s.word.now; named = s.keyword }

-- a keyword with its spelling
abbrev pub spelled : Keyword → Spelled
spelled k = record { word = spelling_of k; named = k }

-- the keywords of a length
abbrev pub of_length : ℕ → List Keyword
of_length n = filter (λ k. length (spelling_of k) == n) every_keyword

-- the keyword among these that a word is, letter case aside
abbrev pub first_among : List Spelled → List ℕ → Option Keyword
first_among [] word = None
first_among (s ∷ ss) word = if str_eq_ignore_ascii_case s.word word then Some s.named else first_among ss word

-- a capital
abbrev pub is_capital : ℕ → Bool
is_capital c = nat_le 65 c && nat_le c 90

-- the word is spelled as this keyword, or is none
abbrev pub IsNamed : Option Keyword → List ℕ → Type 0
IsNamed None word = keyword_of word ≡ None
IsNamed (Some k) word = word ≡ spelling_of k

-- a word of capitals, which more bytes may follow, and the keyword that it is, if it is one
abbrev pub IsSuspect : Suspect → Type 0
IsSuspect s =
    IsNamed s.keyword (take s.length s.letters.now) × (length s.letters.now ≡ 16)
    × IsTrue (list_all is_capital (take s.length s.letters.now))

abbrev pub AreSuspects : List Suspect → Type 0
AreSuspects [] = Unit {0}
AreSuspects (s ∷ ss) = IsSuspect s × AreSuspects ss
