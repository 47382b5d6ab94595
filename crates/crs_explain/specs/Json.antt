-- Refusals and parts that differ in JSON (RFC 8259), each object in a line.
use Rattle.std.specs.Prelude.{◌≡◌, ◌++◌, ◌∷◌, [], ℕ, List, Option, Some, None, codes, decimal}
use Rattle.crs_text.specs.Refusal.{RefusedAt, name_of}
use Rattle.crs_text.specs.declared.position.Position.{Position}
use Rattle.crs_streams.specs.Json.{json_array, json_text, key, number_member, text_member, value_member}
use Rattle.crs_explain.specs.Differing.{PartTexts}
use Rattle.crs_explain.specs.Expectation.{Expectation}
use Rattle.crs_explain.specs.Explained.{Explanation, Explains, Sentences}
use Rattle.crs_explain.specs.Found.{word_of}

-- the number of a refusal, its name and its place, and the line and column of that
abbrev pub place_members : RefusedAt → Position → List ℕ
place_members refusal position =
    codes "\"refused\":" ++ decimal refusal.number ++ text_member (codes "name") (name_of refusal.number)
    ++ number_member (codes "place") refusal.place ++ number_member (codes "line") position.line
    ++ number_member (codes "column") position.column

-- what is found and what could stand there: the keyword of the node, where it begins, what is found, and
-- the names; `null` and no name where that isn't known
abbrev pub expected_members : Option Expectation → List ℕ
expected_members None = codes ",\"node\":null,\"node_place\":null,\"found\":null,\"expected\":[]"
expected_members (Some e) =
    value_member (codes "node") e.node ++ number_member (codes "node_place") e.place
    ++ text_member (codes "found") e.found ++ key (codes "expected") ++ json_array json_text e.names

-- what is open, was meant or is asked for; what the number means; and hints
abbrev pub sentence_members : Sentences → List ℕ
sentence_members s =
    value_member (codes "clue") s.open_or_meant ++ text_member (codes "meaning") s.meaning
    ++ value_member (codes "hints") s.hints

-- which of two texts it is, by the word that begins these bytes, as the first member; nothing where there is one text
abbrev pub which_member : List ℕ → List ℕ
which_member [] = []
which_member (b ∷ which) = codes "\"text\":" ++ json_text (word_of (b ∷ which)) ++ codes ","

-- an explanation as an object
abbrev pub refusal_object : List ℕ → RefusedAt → Explanation → List ℕ
refusal_object which refusal e =
    codes "{" ++ which_member which ++ place_members refusal e.position
    ++ text_member (codes "excerpt") e.excerpt ++ expected_members e.expected
    ++ sentence_members e.sentences ++ codes "}\n"

-- the object explains the refusal of a text, which is this one of two where a word says so
abbrev pub IsRefusalObject : List ℕ → List ℕ → RefusedAt → List ℕ → Type 0
IsRefusalObject which text refusal object =
    (e : Explanation) × Explains text refusal e × (object ≡ refusal_object which refusal e)

-- a part that differs as an object, from behind its brace on; `null` for what has no value
abbrev pub difference_members : PartTexts → List ℕ
difference_members part =
    codes "\"path\":" ++ json_text part.path ++ value_member (codes "first") part.first
    ++ value_member (codes "second") part.second ++ codes "}\n"

-- a part that differs as an object
abbrev pub difference_object : PartTexts → List ℕ
difference_object part = 123 ∷ difference_members part
