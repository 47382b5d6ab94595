-- Lines that begin with a name and a tab, and texts that have names.
use Rattle.std.specs.Prelude.{ℕ, ◌+◌, ◌++◌, ◌==◌, ◌&&◌, [], ◌∷◌, Bool, true, false, not, nat_lt, List, decimal, drop, length, map, take, unwrap_or, if◌then◌else◌}
use Rattle.std.specs.List.{list_all, prefix_len}
use Rattle.std.specs.Str.{bytes_eq}
use Rattle.crs_text.specs.Tokens.{is_white}
use Rattle.crs_group.specs.Catalogue.{nth}

-- how many bytes are before the first tab
abbrev pub tab_at : List ℕ → ℕ
tab_at line = prefix_len (λ b. not (b == 9)) line

-- whether a line begins with a byte order mark
abbrev pub is_marked : List ℕ → Bool
is_marked line = bytes_eq (take 3 line) (0xEF ∷ 0xBB ∷ 0xBF ∷ [])

-- whether a line has a tab, and so a name; one that begins with a byte order mark has none
abbrev pub has_name : List ℕ → Bool
has_name line = nat_lt (tab_at line) (length line) && not (is_marked line)

-- the text of a line: what is behind its first tab; the whole line where it has none
abbrev pub text_behind : List ℕ → List ℕ
text_behind line = if has_name line then drop (tab_at line + 1) line else line

-- the name of a line: what is before its first tab; its number where it has none
abbrev pub name_of : ℕ → List ℕ → List ℕ
name_of number line = if has_name line then take (tab_at line) line else decimal number

-- the names of lines, which are numbered from this number on
abbrev pub names_from : ℕ → List (List ℕ) → List (List ℕ)
names_from number [] = []
names_from number (line ∷ lines) = name_of number line ∷ names_from (number + 1) lines

-- the texts of lines, where they have names or not
abbrev pub texts_in : Bool → List (List ℕ) → List (List ℕ)
texts_in true lines = map text_behind lines
texts_in false lines = lines

-- the names of lines, if they have any
abbrev pub names_in : Bool → List (List ℕ) → List (List ℕ)
names_in true lines = names_from 1 lines
names_in false lines = []

-- the number of a line that has a name and no text, or a blank one, where lines have names
abbrev pub blank_of : Bool → ℕ → List ℕ → List ℕ
blank_of false number line = []
blank_of true number line = if has_name line && list_all is_white (text_behind line) then number ∷ [] else []

-- those of lines that are numbered from this number on
abbrev pub blanks_from : Bool → ℕ → List (List ℕ) → List ℕ
blanks_from named number [] = []
blanks_from named number (line ∷ lines) = blank_of named number line ++ blanks_from named (number + 1) lines

-- a text by its name
pub record NamedText : Type 0 where
  pub name : List ℕ
  pub text : List ℕ

-- the numbers of blank texts, of those that are numbered from this number on
abbrev pub blank_texts : ℕ → List NamedText → List ℕ
blank_texts number [] = []
blank_texts number (one ∷ others) =
    (if list_all is_white one.text then number ∷ [] else []) ++ blank_texts (number + 1) others

-- the name of the line of this number
abbrev pub name_at : ℕ → List (List ℕ) → List ℕ
name_at number names = unwrap_or (nth number names) []
