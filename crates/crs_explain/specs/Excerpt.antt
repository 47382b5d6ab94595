-- The piece of a line at a place, and the caret below it.
use Rattle.std.specs.Prelude.{◌≡◌, ℕ, ◌+◌, ◌-◌, ◌==◌, Bool, true, false, Option, Some, None, List, [], ◌++◌, length, take, codes, encode_utf8, if◌then◌else◌}
use Rattle.std.specs.List.{flat_map, suffix_len}
use Rattle.std.specs.Char.{is_ascii_whitespace}
use Rattle.bstr.specs.Utf8.{lossy_chars}
use Rattle.ucd_category.specs.GeneralCategory.{general_category}
use Rattle.ucd_category.specs.declared.GeneralCategory.{GeneralCategory}
use Rattle.ucd_category.specs.declared.GeneralCategory.TheVariants as category
use Rattle.unicode_width.specs.Width.{char_width}
use Rattle.crs_text.specs.Position.{feeds}

-- the general categories of what can't be printed: controls, ends of lines, white space but the
-- blank, marks of direction, and what is no character
abbrev pub is_hidden : GeneralCategory → Bool
is_hidden category.Control = true
is_hidden category.Format = true
is_hidden category.Surrogate = true
is_hidden category.PrivateUse = true
is_hidden category.Unassigned = true
is_hidden category.SpaceSeparator = true
is_hidden category.LineSeparator = true
is_hidden category.ParagraphSeparator = true
is_hidden other = false

-- a character as it is printed: a blank for a tab, and the replacement character for what can't be
abbrev pub printed : ℕ → ℕ
printed c =
    if c == 9 then 32 else if c == 32 then c
    else if is_hidden (general_category c) then 0xFFFD else c

-- a character's columns in a terminal as blanks; there are three at most
abbrev pub blanks : Option ℕ → List ℕ
blanks None = []
blanks (Some columns) = take columns (codes "   ")

-- bytes as they are printed
abbrev pub printed_text : List ℕ → List ℕ
printed_text bytes = flat_map (λ c. encode_utf8 (printed c)) (lossy_chars bytes)

-- blanks as wide as these bytes are printed
abbrev pub blanks_below : List ℕ → List ℕ
blanks_below bytes = flat_map (λ c. blanks (char_width false (printed c))) (lossy_chars bytes)

-- the place that is shown: at the text's end the end of what it says, before its last white space
abbrev pub shown_place : List ℕ → ℕ → ℕ
shown_place text place = if place == length text then length text - suffix_len is_ascii_whitespace text else place

-- bytes of one line before the place and from it on, as they are printed, and in the line below the
-- caret under the place
pub record IsExcerpt (text : List ℕ) (place : ℕ) (lines : List ℕ) : Type 0 where
  pub before : List ℕ
  pub left : List ℕ
  pub right : List ℕ
  pub after : List ℕ
  pub parts : text ≡ before ++ (left ++ (right ++ after))
  pub is_place : shown_place text place ≡ length before + length left
  pub one_line : feeds (left ++ right) ≡ 0
  pub is_shown : lines ≡ codes "  " ++ printed_text left ++ printed_text right ++ codes "\n  "
      ++ blanks_below left ++ codes "^\n"
