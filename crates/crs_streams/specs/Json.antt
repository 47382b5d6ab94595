-- Texts, numbers, arrays and members of objects in JSON (RFC 8259), in one line.
use Rattle.std.specs.Prelude.{◌/◌, ◌%◌, ◌++◌, ◌∷◌, [], ◌==◌, ◌||◌, nat_lt, ℕ, List, codes, decimal, encode_utf8, if◌then◌else◌}
use Rattle.std.specs.List.{flat_map}
use Rattle.std.specs.Str.{is_utf8}
use Rattle.bstr.specs.Utf8.{lossy_chars}
use Rattle.crs_streams.specs.Escaped.{coded, hex_byte}

-- a character by its code, as `\u202E`
abbrev pub code_text : ℕ → List ℕ
code_text c = codes "\\u" ++ hex_byte (c / 256) ++ hex_byte (c % 256)

-- a character in a string: a quote and a backslash have a backslash before them; control characters and what is coded
-- in lines are codes
abbrev pub json_char : ℕ → List ℕ
json_char c =
    if c == 34 || c == 92 then 92 ∷ c ∷ []
    else if (nat_lt c 32 || c == 127) || coded c then code_text c
    else encode_utf8 c

-- a string of characters
abbrev pub json_string : List ℕ → List ℕ
json_string bytes = codes "\"" ++ flat_map json_char (lossy_chars bytes) ++ codes "\""

-- bytes that aren't UTF-8, by two hexadecimal digits each, as `{"bytes":"FF"}`
abbrev pub json_bytes : List ℕ → List ℕ
json_bytes bytes = codes "{\"bytes\":\"" ++ flat_map hex_byte bytes ++ codes "\"}"

-- a text: a string, or its bytes where it isn't UTF-8
abbrev pub json_text : List ℕ → List ℕ
json_text bytes = if is_utf8 bytes then json_string bytes else json_bytes bytes

-- the same, or `null` where there are no bytes
abbrev pub json_value : List ℕ → List ℕ
json_value [] = codes "null"
json_value (b ∷ bytes) = json_text (b ∷ bytes)

-- members of an array, each after a comma
abbrev pub json_more : {A : Type 0} → (A → List ℕ) → List A → List ℕ
json_more spelled members = flat_map (λ member. codes "," ++ spelled member) members

-- an array of members, each spelled so
abbrev pub json_array : {A : Type 0} → (A → List ℕ) → List A → List ℕ
json_array spelled [] = codes "[]"
json_array spelled (member ∷ members) = codes "[" ++ spelled member ++ json_more spelled members ++ codes "]"

-- the name of a further member of an object
unfoldable pub key : List ℕ → List ℕ
key name = codes ",\"" ++ name ++ codes "\":"

-- a further member that is a number
abbrev pub number_member : List ℕ → ℕ → List ℕ
number_member name n = key name ++ decimal n

-- one that is a text
abbrev pub text_member : List ℕ → List ℕ → List ℕ
text_member name text = key name ++ json_text text

-- one that is a text, or `null` where there are no bytes
abbrev pub value_member : List ℕ → List ℕ → List ℕ
value_member name text = key name ++ json_value text
