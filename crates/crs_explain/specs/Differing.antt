-- What differs between two CRSs as texts.
use Rattle.std.specs.Prelude.{◌≡◌, ◌==◌, ◌∷◌, [], ℕ, List, ◌++◌, Bool, true, false, if◌then◌else◌, Option, Some, codes, not, take}
use Rattle.crs_value.specs.declared.values.level.Level.{Level}
use Rattle.crs_same.specs.declared.content.Content.{Content}
use Rattle.crs_canon.specs.ContentText.{IsContentText}
use Rattle.crs_value.specs.Values.{ParameterParts}
use Rattle.crs_same.specs.Parts.{◌⨾◌, DifferenceParts, Differences, Parts, identifiers, numbers, units, DifferencesInCrs}
use Rattle.crs_same.specs.Paths.{further_text, path_text}
use Rattle.crs_canon.specs.Named.{ArePairedNames, named_once, unpaired}
use Rattle.std.specs.List.{flat_map, list_any, prefix_len}
use Rattle.std.specs.Str.{bytes_eq}
use Rattle.crs_value.specs.declared.values.crs.Crs.{Crs}
use Rattle.crs_streams.specs.Escaped.{escaped}
use Rattle.crs_explain.specs.CodePoints.{code_points}
use Rattle.crs_shape.specs.declared.unit_kind.UnitKind.TheVariants as kinds
use Rattle.crs_same.specs.declared.content.Content.TheVariants as content
use Rattle.crs_same.specs.declared.step.Step.TheVariants as step

-- what differs as texts: its path, and its value in the first CRS and in the second, which are
-- empty where there is nothing
pub record PartTexts : Type 0 where
  pub path : List ℕ
  pub first : List ℕ
  pub second : List ℕ

-- what they are where the first and the second are exchanged
abbrev pub texts_exchanged : PartTexts → PartTexts
texts_exchanged texts = record { path = texts.path; first = texts.second; second = texts.first }

-- these are the texts of what is at this path and has these values
abbrev pub AreTextsAt : Level → List ℕ → (first second : Content) → PartTexts → Type 0
AreTextsAt level path first second texts =
    (texts.path ≡ path) × IsContentText level first texts.first × IsContentText level second texts.second

-- of this alone
abbrev pub AreTextsOfOne : Level → List ℕ → (first second : Content) → List PartTexts → Type 0
AreTextsOfOne level path first second texts =
    (one : PartTexts) × (texts ≡ one ∷ []) × AreTextsAt level path first second one

-- ---- how a set of parameters that differs is written: of each name that stands once on each side what differs in its parameter, and then the other parameters that one side lacks

-- the parts of two parameters of one name: number, unit, identifiers; `UNIT` is a kind of its own
abbrev pub parts_of_parameter : Level → ParameterParts → ParameterParts → Parts
parts_of_parameter level x y =
    numbers [] x.value y.value
    ⨾ units (step.Unit ∷ []) level kinds.Plain kinds.Plain x.unit y.unit
    ⨾ identifiers (step.Id ∷ []) level x.identifiers y.identifiers

-- the path to a parameter: that to its set, and its name in brackets
abbrev pub parameter_path : List ℕ → List ℕ → List ℕ
parameter_path path name = path ++ codes "[\"" ++ name ++ codes "\"]"

-- the texts of these parts of a parameter, in order, each at its path behind that of the parameter
abbrev pub AreTextsBehind : Level → List ℕ → List DifferenceParts → List PartTexts → Type 0
AreTextsBehind level front [] texts = texts ≡ []
AreTextsBehind level front (part ∷ parts) texts =
    (one : PartTexts) × (others : List PartTexts) × (texts ≡ one ∷ others)
    × AreTextsAt level (front ++ further_text part.path) part.first part.second one
    × AreTextsBehind level front parts others

-- the texts of those of these parts that differ
abbrev pub AreTextsOfParts : Level → List ℕ → Parts → List PartTexts → Type 0
AreTextsOfParts level front parts texts =
    (found : List DifferenceParts) × Differences parts found × AreTextsBehind level front found texts

-- the texts of what differs in the parameter of a name that stands once on each side
abbrev pub AreTextsOfName : Level → List ℕ → List ℕ → (x y : Option ParameterParts) → List PartTexts → Type 0
AreTextsOfName level path name (Some x) (Some y) texts =
    AreTextsOfParts level (parameter_path path name) (parts_of_parameter level x y) texts
AreTextsOfName level path name x y texts = texts ≡ []

-- the texts of each of these names, in order
abbrev pub AreTextsOfNames : Level → List ℕ → (xs ys : List ParameterParts) → List (List ℕ) → List PartTexts → Type 0
AreTextsOfNames level path xs ys [] texts = texts ≡ []
AreTextsOfNames level path xs ys (name ∷ names) texts =
    (these : List PartTexts) × (others : List PartTexts) × (texts ≡ these ++ others)
    × AreTextsOfName level path name (named_once name xs) (named_once name ys) these
    × AreTextsOfNames level path xs ys names others

-- whether neither has bytes
abbrev pub are_empty : (first second : List ℕ) → Bool
are_empty [] [] = true
are_empty first second = false

-- texts of which one side at least has a value
abbrev pub unless_empty : PartTexts → List PartTexts
unless_empty texts = if are_empty texts.first texts.second then [] else texts ∷ []

-- the texts of the other parameters, of which each side has those that the other lacks
abbrev pub AreTextsOfOthers : Level → List ℕ → (xs ys : List ParameterParts) → List PartTexts → Type 0
AreTextsOfOthers level path xs ys texts =
    (one : PartTexts) × (texts ≡ unless_empty one)
    × AreTextsAt level path (content.Parameters (unpaired xs ys) (unpaired ys xs))
    (content.Parameters (unpaired ys xs) (unpaired xs ys)) one

-- the texts of a set of parameters
abbrev pub AreTextsOfSet : Level → List ℕ → (xs ys : List ParameterParts) → List PartTexts → Type 0
AreTextsOfSet level path xs ys texts =
    (names : List (List ℕ)) × (these : List PartTexts) × (others : List PartTexts)
    × ArePairedNames xs ys names × AreTextsOfNames level path xs ys names these
    × AreTextsOfOthers level path xs ys others × (texts ≡ these ++ others)

-- ---- all parts in which two CRSs differ, as texts: for a program, and a line each for a person

-- the value of a part as a line shows it: `none` where there is nothing
abbrev pub shown : List ℕ → List ℕ
shown [] = codes "none"
shown (b ∷ bytes) = escaped (b ∷ bytes)

-- the texts of a part that differs: of two sets of parameters those of the sets, else of the part alone
abbrev pub AreTextsOf : Level → List ℕ → (first second : Content) → List PartTexts → Type 0
AreTextsOf level path (content.Parameters xs lacking) (content.Parameters ys others) texts =
    AreTextsOfSet level path xs ys texts
AreTextsOf level path first second texts = AreTextsOfOne level path first second texts

-- the texts of these parts, in order
abbrev pub AreTexts : Level → List DifferenceParts → List PartTexts → Type 0
AreTexts level [] texts = texts ≡ []
AreTexts level (part ∷ parts) texts =
    (these : List PartTexts) × (others : List PartTexts) × (texts ≡ these ++ others)
    × AreTextsOf level (path_text part.path) part.first part.second these × AreTexts level parts others

-- the texts of all parts in which two CRSs differ at a level, in order
abbrev pub AreDifferenceTexts : Level → Crs → Crs → List PartTexts → Type 0
AreDifferenceTexts level a b texts =
    (parts : List DifferenceParts) × DifferencesInCrs level a b parts × AreTexts level parts texts

-- the line of what differs: its path, its value in the first CRS and in the second, and the code points behind values
-- that may print alike
abbrev pub difference_line : PartTexts → List ℕ
difference_line part =
    escaped part.path ++ codes ": " ++ shown part.first ++ codes " | " ++ shown part.second
    ++ code_points part.first part.second ++ 10 ∷ []

-- the lines of all parts in which two CRSs differ at a level, in order
abbrev pub IsDifferencesText : Level → Crs → Crs → List ℕ → Type 0
IsDifferencesText level a b text =
    (parts : List PartTexts) × AreDifferenceTexts level a b parts × (text ≡ flat_map difference_line parts)

-- the three pieces of what differs
abbrev pub part_pieces : PartTexts → List (List ℕ)
part_pieces part = part.path ∷ part.first ∷ part.second ∷ []

-- three pieces for all in which two CRSs differ at a level, in order
abbrev pub AreDifferencePieces : Level → Crs → Crs → List (List ℕ) → Type 0
AreDifferencePieces level a b pieces =
    (parts : List PartTexts) × AreDifferenceTexts level a b parts × (pieces ≡ flat_map part_pieces parts)

-- ---- which part a text tells of

-- a byte of the path to a part: in that to a member of a set a bracket follows
abbrev pub is_of_part : ℕ → Bool
is_of_part b = not (b == 91)

-- the path to a part, without the name of a member and what follows
abbrev pub part_of : List ℕ → List ℕ
part_of path = take (prefix_len is_of_part path) path

-- whether one of some texts tells of this part
abbrev pub has_part : List PartTexts → List ℕ → Bool
has_part texts part = list_any (λ one. bytes_eq (part_of one.path) part) texts
