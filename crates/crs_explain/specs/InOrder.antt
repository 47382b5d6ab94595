-- The parts that differ in an order of their own, by words of their paths.
use Rattle.std.specs.Prelude.{◌≡◌, ◌==◌, ◌&&◌, ◌||◌, [], ◌∷◌, ℕ, List, Bool, false, true, if◌then◌else◌, not, take}
use Rattle.std.specs.Char.{is_ascii_lowercase}
use Rattle.std.specs.List.{flat_map, prefix_len}
use Rattle.std.specs.List.Sorted.{IsNonDecreasingBy, IsPermutation, IsStableByKey}
use Rattle.std.specs.Ordering.{nat_cmp}
use Rattle.std.specs.Str.{bytes_eq}
use Rattle.crs_value.specs.declared.values.crs.Crs.{Crs}
use Rattle.crs_value.specs.declared.values.level.Level.{Level}
use Rattle.crs_explain.specs.Differing.{AreDifferenceTexts, PartTexts, difference_line}
use Rattle.crs_explain.specs.Json.{difference_object}

-- a byte of a word of a path: a slash, the digits of an axis's position or the bracket before a name ends it
abbrev pub is_of_word : ℕ → Bool
is_of_word b = is_ascii_lowercase b

-- the word with which some bytes of a path begin
abbrev pub word_at : List ℕ → List ℕ
word_at path = take (prefix_len is_of_word path) path

-- whether a step begins behind this byte: a slash outside of names
abbrev pub begins_behind : Bool → ℕ → Bool
begins_behind is_quoted b = not is_quoted && b == 47

-- whether a name goes on behind this byte: in it quotes are doubled
abbrev pub is_quoted_behind : Bool → ℕ → Bool
is_quoted_behind is_quoted b = if b == 34 then not is_quoted else is_quoted

-- whether a step of a path has this word, where a step begins or goes on, and a name of a member does or doesn't
abbrev pub has_step_from : (begins is_quoted : Bool) → List ℕ → List ℕ → Bool
has_step_from begins is_quoted word [] = false
has_step_from begins is_quoted word (b ∷ path) =
    (begins && bytes_eq (word_at (b ∷ path)) word)
    || has_step_from (begins_behind is_quoted b) (is_quoted_behind is_quoted b) word path

-- whether no step of a path has this word
abbrev pub lacks : List ℕ → List ℕ → Bool
lacks path word = not (has_step_from true false word path)

-- how many words come before the first that a step to this part has; all, where it has none
abbrev pub rank : List (List ℕ) → PartTexts → ℕ
rank words part = prefix_len (lacks part.path) words

-- the same parts, first those with the first word, then those with the next, and so on, then the
-- others; those of one word in the order that they have
pub record AreInOrder (words : List (List ℕ)) (parts ordered : List PartTexts) : Type 0 where
  pub are_all : IsPermutation parts ordered
  pub by_word : IsNonDecreasingBy (rank words) ordered
  pub as_before : IsStableByKey (rank words) nat_cmp parts ordered

-- the texts of all parts in which two CRSs differ at a level, in the order of some words
abbrev pub AreOrderedTexts : List (List ℕ) → Level → Crs → Crs → List PartTexts → Type 0
AreOrderedTexts words level a b ordered =
    (parts : List PartTexts) × AreDifferenceTexts level a b parts × AreInOrder words parts ordered

-- their lines
abbrev pub IsOrderedText : List (List ℕ) → Level → Crs → Crs → List ℕ → Type 0
IsOrderedText words level a b text =
    (ordered : List PartTexts) × AreOrderedTexts words level a b ordered
    × (text ≡ flat_map difference_line ordered)

-- their objects of JSON
abbrev pub AreOrderedObjects : List (List ℕ) → Level → Crs → Crs → List ℕ → Type 0
AreOrderedObjects words level a b text =
    (ordered : List PartTexts) × AreOrderedTexts words level a b ordered
    × (text ≡ flat_map difference_object ordered)
