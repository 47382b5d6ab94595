-- How the refusal of a text is explained: to a person in some lines, and to a program in pieces.
use Rattle.std.specs.Prelude.{◌≡◌, ◌⊎◌, ◌==◌, ◌≤◌, ◌++◌, ◌∷◌, [], ℕ, List, Option, length, codes, decimal, if◌then◌else◌, map, take}
use Rattle.crs_text.specs.Refusal.{RefusedAt, refused_text}
use Rattle.crs_text.specs.Position.{IsPosition, feeds}
use Rattle.crs_text.specs.declared.position.Position.{Position}
use Rattle.crs_explain.specs.Excerpt.{IsExcerpt}
use Rattle.crs_explain.specs.Expectation.{Expectation, expected_line, or_nothing}
use Rattle.crs_explain.specs.Expected.{IsExpected}
use Rattle.crs_explain.specs.Found.{named_by}

-- words of a line: at most 1,000 bytes, none of which is a line feed
abbrev pub AreWords : List ℕ → Type 0
AreWords words = (feeds words ≡ 0) × (length words ≤ 1000)

-- what is open, was meant or is asked for; what the number means; and hints; no words where nothing is to be said
pub record Sentences : Type 0 where
  pub open_or_meant : List ℕ
  pub meaning : List ℕ
  pub hints : List ℕ

-- each of them is the words of a line
abbrev pub AreSentences : Sentences → Type 0
AreSentences s = AreWords s.open_or_meant × AreWords s.meaning × AreWords s.hints

-- a blank for a line feed
abbrev pub in_line : ℕ → ℕ
in_line b = if b == 10 then 32 else b

-- bytes as the words of a line: the first 1,000, with blanks for line feeds
abbrev pub line_words : List ℕ → List ℕ
line_words words = map in_line (take 1000 words)

-- the delimiter that is open: the keyword before it, of which at most 40 bytes are shown, the delimiter, and where they begin
abbrev pub open_text : (keyword : List ℕ) (delimiter place : ℕ) → List ℕ
open_text keyword delimiter place = named_by keyword ++ delimiter ∷ codes " at " ++ decimal place ++ codes " is still open"

-- words that tell of an open delimiter, or none
abbrev pub IsOpenText : List ℕ → Type 0
IsOpenText words =
    (words ≡ [])
    ⊎ ((keyword : List ℕ) × (delimiter : ℕ) × (place : ℕ) × (words ≡ open_text keyword delimiter place))

-- at a token with which no text goes on, and at the end of a text, the delimiter that is open is named
abbrev pub TellsOpen : RefusedAt → List ℕ → Type 0
TellsOpen refusal words = (refusal.number ≡ 6) ⊎ (refusal.number ≡ 7) → IsOpenText words

-- all that is explained of a refusal
pub record Explanation : Type 0 where
  pub position : Position
  pub excerpt : List ℕ
  pub expected : Option Expectation
  pub sentences : Sentences

-- the explanation of a text's refusal: the line and column of the place; a piece of the line and a
-- caret; what is found and what could stand there, where that is known; and sentences, of which the first
-- tells at 6 and 7 which delimiter is open
pub record Explains (text : List ℕ) (refusal : RefusedAt) (e : Explanation) : Type 0 where
  pub is_position : IsPosition text refusal.place e.position
  pub is_excerpt : IsExcerpt text refusal.place e.excerpt
  pub is_expected : IsExpected text refusal e.expected
  pub are_sentences : AreSentences e.sentences
  pub clue : List ℕ
  pub tells_open : TellsOpen refusal clue
  pub is_clue : e.sentences.open_or_meant ≡ line_words clue

-- `refused N NAME at P, line L, column C`, and a line feed
abbrev pub head : RefusedAt → Position → List ℕ
head refusal position =
    refused_text refusal.number refusal.place ++ (codes ", line " ++ decimal position.line
    ++ codes ", column " ++ decimal position.column ++ 10 ∷ [])

-- words as a line; nothing where there are none
abbrev pub line_if_any : List ℕ → List ℕ
line_if_any [] = []
line_if_any (b ∷ words) = (b ∷ words) ++ 10 ∷ []

-- the lines of the sentences; what the number means always has one
abbrev pub sentence_lines : Sentences → List ℕ
sentence_lines s = line_if_any s.open_or_meant ++ (s.meaning ++ 10 ∷ []) ++ line_if_any s.hints

-- an explanation in lines
abbrev pub explanation_text : RefusedAt → Explanation → List ℕ
explanation_text refusal e =
    head refusal e.position ++ e.excerpt ++ expected_line (or_nothing e.expected) ++ sentence_lines e.sentences

-- the lines explain the text's refusal
abbrev pub IsExplained : List ℕ → RefusedAt → List ℕ → Type 0
IsExplained text refusal told = (e : Explanation) × Explains text refusal e × (told ≡ explanation_text refusal e)

-- in this order the piece of the line with the caret; the line of what could stand there, the keyword of
-- the node, and what is found; the three sentences; and the names of what could stand there
abbrev pub pieces_told : Explanation → List (List ℕ)
pieces_told e =
    e.excerpt ∷ expected_line (or_nothing e.expected) ∷ (or_nothing e.expected).node
    ∷ (or_nothing e.expected).found ∷ e.sentences.open_or_meant ∷ e.sentences.meaning ∷ e.sentences.hints
    ∷ (or_nothing e.expected).names

-- an explanation as numbers and pieces: line and column, the place of that node, and these pieces
pub record ExplainedPieces : Type 0 where
  pub line : ℕ
  pub column : ℕ
  pub node : ℕ
  pub pieces : List (List ℕ)

-- an explanation in this form
abbrev pub explanation_pieces : Explanation → ExplainedPieces
explanation_pieces e = record {
  line = e.position.line;
  column = e.position.column;
  node = (or_nothing e.expected).place;
  pieces = pieces_told e;
}

-- the pieces explain the text's refusal
abbrev pub AreExplainedPieces : List ℕ → RefusedAt → ExplainedPieces → Type 0
AreExplainedPieces text refusal told = (e : Explanation) × Explains text refusal e × (told ≡ explanation_pieces e)
