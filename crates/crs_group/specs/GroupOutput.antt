-- How the catalogue of some bytes is written.
use Rattle.std.specs.Prelude.{◌≡◌, ◌==◌, ◌&&◌, ◌+◌, ◌++◌, ◌∷◌, [], ℕ, Bool, true, false, nat_lt, not, List, codes, decimal, length, if◌then◌else◌}
use Rattle.std.specs.List.{flat_map}
use Rattle.std.specs.Str.{is_utf8}
use Rattle.hex.specs.Hex.{encode_upper}
use Rattle.crs_text.specs.Refusal.{RefusedAt, refused_text}
use Rattle.crs_value.specs.declared.values.level.Level.{Level}
use Rattle.crs_streams.specs.Escaped.{escaped}
use Rattle.crs_writer.specs.Canonical.{IsCanonicalOf}
use Rattle.crs_rules.specs.Rules.{RulesParts}
use Rattle.crs_rules.specs.Rewritten.{IsForm}
use Rattle.crs_group.specs.Catalogue.{CatalogueParts, GroupParts, Line, line_of}
use Rattle.crs_group.specs.GroupObjects.{blank_object, group_object, refused_object}
use Rattle.crs_group.specs.GroupTexts.{IsCatalogueOfBy, PlacedLine, ShareWhereSame}
use Rattle.crs_group.specs.Names.{blanks_from, name_at, names_in, texts_in}
use Rattle.crs_group.specs.UnderRules.{ShareWhereSameUnder}
use Rattle.crs_streams.specs.Lines.{AreLines, blank_in}
use Rattle.crs_group.specs.declared.listing.Listing.{Listing}
use Rattle.crs_group.specs.declared.summary.Summary.{Summary}

-- every group is listed, in a line, and lines are written by their numbers
abbrev pub plain : Listing
plain = record { repeated = false; names = false; files = false; json = false }

-- a byte of a name that isn't UTF-8: from 128 on as `\xFF`
abbrev pub shown_byte : ℕ → List ℕ
shown_byte b = if nat_lt b 128 then escaped (b ∷ []) else codes "\\x" ++ encode_upper (b ∷ [])

-- a name, in which what steers a terminal is escaped
abbrev pub shown_name : List ℕ → List ℕ
shown_name name = if is_utf8 name then escaped name else flat_map shown_byte name

-- a byte of a file's name, which is no blank (32)
abbrev pub without_blank : ℕ → List ℕ
without_blank b = if b == 32 then codes "\\x20" else b ∷ []

-- the name of a file, in which blanks are escaped too, since blanks part names
abbrev pub shown_file : List ℕ → List ℕ
shown_file name = flat_map without_blank (escaped name)

-- what stands for a line: its number, or its name; for a file its name
abbrev pub label : Listing → List (List ℕ) → ℕ → List ℕ
label listing names number =
    if listing.files then shown_file (name_at number names)
    else if listing.names then shown_name (name_at number names) else decimal number

-- what goes before each: a blank, or before the name of a line, which may have blanks, a tab (9)
abbrev pub parting : Listing → ℕ
parting listing = if listing.names && not listing.files then 9 else 32

-- ` L1 L2 ..`
abbrev pub labels_text : Listing → List (List ℕ) → List ℕ → List ℕ
labels_text listing names numbers = flat_map (λ number. parting listing ∷ label listing names number) numbers

-- `group N: L1 L2 ..`, and a line feed
abbrev pub group_line : Listing → List (List ℕ) → ℕ → GroupParts → List ℕ
group_line listing names number group =
    codes "group " ++ decimal number ++ codes ":" ++ labels_text listing names group.lines
    ++ 10 ∷ []

-- `line L: `, or `FILE: `
abbrev pub place_text : Listing → List (List ℕ) → ℕ → List ℕ
place_text listing names line = (if listing.files then [] else codes "line ") ++ label listing names line ++ codes ": "

-- `line L: refused N NAME at P`, and a line feed
abbrev pub refused_line : Listing → List (List ℕ) → ℕ × RefusedAt → List ℕ
refused_line listing names (line, refusal) =
    place_text listing names line ++ refused_text refusal.number refusal.place ++ 10 ∷ []

-- `line L: blank`, and a line feed
abbrev pub blank_line : Listing → List (List ℕ) → ℕ → List ℕ
blank_line listing names line = place_text listing names line ++ codes "blank\n"

-- whether a group of these lines is listed: each is, or each of two lines or more
abbrev pub is_listed : Listing → List ℕ → Bool
is_listed listing lines = if listing.repeated then nat_lt 1 (length lines) else true

-- a group as it is written: an object of JSON, or a line
abbrev pub group_written : Listing → List (List ℕ) → ℕ → GroupParts → List ℕ
group_written listing names number group =
    if listing.json then group_object listing names number group.lines group.canon.bytes
    else group_line listing names number group

-- a refused line as it is written
abbrev pub refused_written : Listing → List (List ℕ) → ℕ × RefusedAt → List ℕ
refused_written listing names refused =
    if listing.json then refused_object listing names refused
    else refused_line listing names refused

-- what is blank as it is written
abbrev pub blank_written : Listing → List (List ℕ) → ℕ → List ℕ
blank_written listing names line =
    if listing.json then blank_object listing names line else blank_line listing names line

-- what is written of a group, if it is listed
abbrev pub listed_line : Listing → List (List ℕ) → ℕ → GroupParts → List ℕ
listed_line listing names number group =
    if is_listed listing group.lines then group_written listing names number group else []

-- the groups that are listed, from this number on; each has its number among all
abbrev pub group_lines : Listing → List (List ℕ) → ℕ → List GroupParts → List ℕ
group_lines listing names number [] = []
group_lines listing names number (group ∷ groups) =
    listed_line listing names number group ++ group_lines listing names (number + 1) groups

-- the groups in the order of their numbers, and then in theirs the blank lines of these numbers and the refused lines
abbrev pub catalogue_text : Listing → List (List ℕ) → List ℕ → CatalogueParts → List ℕ
catalogue_text listing names blanks catalogue =
    group_lines listing names 1 catalogue.groups ++ flat_map (blank_written listing names) blanks
    ++ flat_map (refused_written listing names) catalogue.refused

-- lines are numbered in order, from this number on
abbrev pub numbered : ℕ → List (List ℕ) → List Line
numbered number [] = []
numbered number (text ∷ texts) = line_of number text ∷ numbered (number + 1) texts

-- the bytes are written as the catalogue of the texts of their lines, in this form of them, which
-- are numbered from 1, with the groups that are listed, and this is its summary
pub record IsGroupOutputBy (Form : Level → List ℕ → List ℕ → Type 0)
    (Share : Level → PlacedLine → PlacedLine → Type 0) (listing : Listing) (level : Level)
    (bytes written : List ℕ) (summary : Summary) : Type 0 where
  pub texts : List (List ℕ)
  pub are_texts : AreLines bytes texts
  pub catalogue : CatalogueParts
  pub is_level : catalogue.level ≡ level
  pub of_lines : IsCatalogueOfBy Form Share (numbered 1 (texts_in listing.names texts)) catalogue
  pub is_written : written ≡ catalogue_text listing (names_in listing.names texts) (blanks_from listing.names 1 texts) catalogue
  pub lines : summary.lines ≡ length texts
  pub blank : summary.blank ≡ blank_in (texts_in listing.names texts)
  pub refused : summary.refused ≡ length catalogue.refused
  pub groups : summary.groups ≡ length catalogue.groups

-- that, where two texts share a group if their CRSs are the same
abbrev pub IsGroupOutput : Listing → Level → List ℕ → List ℕ → Summary → Type 0
IsGroupOutput listing level = IsGroupOutputBy IsCanonicalOf ShareWhereSame listing level

-- that, where two texts share a group if they are the same under rules
abbrev pub IsGroupOutputUnder : RulesParts → Listing → Level → List ℕ → List ℕ → Summary → Type 0
IsGroupOutputUnder rules listing level = IsGroupOutputBy (IsForm rules) (ShareWhereSameUnder rules) listing level
