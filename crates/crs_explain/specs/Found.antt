-- What begins at a place of a text, and what an item is called by its first bytes.
use Rattle.std.specs.Prelude.{ℕ, ◌==◌, ◌||◌, nat_le, Bool, List, ◌++◌, map, length, take, drop, codes, slice_index_or, if◌then◌else◌}
use Rattle.std.specs.List.{prefix_len}
use Rattle.std.specs.Char.{to_ascii_uppercase, is_ascii_alphabetic, is_ascii_alphanumeric, is_ascii_whitespace}

-- a byte of a word
abbrev pub is_of_word : ℕ → Bool
is_of_word b = is_ascii_alphanumeric b || b == 95

-- the word that bytes begin with
abbrev pub word_of : List ℕ → List ℕ
word_of bytes = take (prefix_len is_of_word bytes) bytes

-- a word as it is written; of a longer one the first 40 bytes
abbrev pub word_shown : List ℕ → List ℕ
word_shown word = if nat_le (length word) 40 then word else take 40 word ++ codes ".."

-- the same in capitals
abbrev pub named_by : List ℕ → List ℕ
named_by word = map to_ascii_uppercase (word_shown word)

-- the first byte, 0 where there is none
abbrev pub first_byte : List ℕ → ℕ
first_byte bytes = slice_index_or bytes 0 0

-- whether bytes begin with an opening delimiter
abbrev pub opens : List ℕ → Bool
opens bytes = first_byte bytes == 91 || first_byte bytes == 40

-- the same after white space
abbrev pub opens_after_white : List ℕ → Bool
opens_after_white bytes = opens (drop (prefix_len is_ascii_whitespace bytes) bytes)

-- the keyword of the node that bytes begin with, or a word
abbrev pub word_found : List ℕ → List ℕ
word_found bytes =
    if opens_after_white (drop (prefix_len is_of_word bytes) bytes) then named_by (word_of bytes)
    else codes "a word"

-- what bytes begin with: a closing delimiter is itself, a node its keyword, and a text, a word or a
-- number are called so
abbrev pub found_in : List ℕ → List ℕ
found_in bytes =
    if first_byte bytes == 93 then codes "]"
    else if first_byte bytes == 41 then codes ")"
    else if first_byte bytes == 34 then codes "a text in quotes"
    else if is_ascii_alphabetic (first_byte bytes) then word_found bytes
    else codes "a number"
