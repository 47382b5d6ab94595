-- Which catalogue is that of some lines, said by what texts spell, without canonical texts.
use Rattle.std.specs.Prelude.{◌≡◌, ◌↔◌, ◌⊎◌, ◌+◌, ◌≤◌, ◌==◌, ◌∷◌, [], ℕ, List, Some, if◌then◌else◌, length, ◌++◌, map}
use Rattle.std.specs.List.{flat_map}
use Rattle.crs_text.specs.Refusal.{RefusedAt}
use Rattle.crs_text.specs.Tokens.{IsWhite}
use Rattle.crs_value.specs.Sound.{Each}
use Rattle.crs_value.specs.Spells.{Spells, Refuses}
use Rattle.crs_value.specs.declared.values.crs.Crs.{Crs}
use Rattle.crs_value.specs.declared.values.level.Level.{Level}
use Rattle.crs_same.specs.SameCrs.{SameCrs}
use Rattle.crs_canon.specs.MainTheorem.{IsAccepted}
use Rattle.crs_group.specs.Catalogue.{Line, GroupParts, CatalogueParts, nth, canons, line_of}
use Rattle.crs_group.specs.declared.placed.Placed.{Placed}
use Rattle.crs_group.specs.declared.placed.Placed.TheVariants.{Blank, Refused, Group}
use Rattle.crs_writer.specs.Canonical.{CanonicalText, IsCanonicalOf}

-- a line and its place: the group that it is in, or its refusal
pub record PlacedLine : Type 0 where
  pub line : Line
  pub place : Placed

-- a blank text is white space alone; any other spells no CRS and is refused, or spells one and is in a group
abbrev pub IsPlacedAs : List ℕ → Placed → Type 0
IsPlacedAs text Blank = IsWhite text
IsPlacedAs text (Refused refusal) = (¬ (IsWhite text)) × Refuses text refusal
IsPlacedAs text (Group n) = (¬ (IsWhite text)) × IsAccepted text

-- two lines are in one group exactly where the CRSs that they spell are the same
abbrev pub ShareWhereSame : Level → PlacedLine → PlacedLine → Type 0
ShareWhereSame level p q = (m n : ℕ) (a b : Crs) → p.place ≡ Group m → q.place ≡ Group n
    → Spells p.line.text a → Spells q.line.text b → (m ≡ n) ↔ SameCrs level a b

-- with so many groups before a line, there are so many after it: the line is in one of them, or is
-- the first of the next
abbrev pub Counts : ℕ → Placed → ℕ → Type 0
Counts before Blank behind = behind ≡ before
Counts before (Refused refusal) behind = behind ≡ before
Counts before (Group n) behind = ((1 ≤ n) × (n ≤ before) × (behind ≡ before)) ⊎ ((n ≡ before + 1) × (behind ≡ n))

-- groups are numbered by their first lines: with so many before these lines, there are so many after them
abbrev pub AreNumbered : ℕ → List PlacedLine → ℕ → Type 0
AreNumbered before [] behind = behind ≡ before
AreNumbered before (p ∷ ps) behind = (next : ℕ) × Counts before p.place next × AreNumbered next ps behind

-- the line's number, where it is in the group
abbrev pub in_group : ℕ → ℕ → Placed → List ℕ
in_group n number Blank = []
in_group n number (Refused refusal) = []
in_group n number (Group m) = if m == n then number ∷ [] else []

-- the line's number and refusal, where it is refused
abbrev pub if_refused : ℕ → Placed → List (ℕ × RefusedAt)
if_refused number Blank = []
if_refused number (Refused refusal) = (number, refusal) ∷ []
if_refused number (Group n) = []

-- the numbers of the lines that are in a group, in order
abbrev pub lines_in : ℕ → List PlacedLine → List ℕ
lines_in n placed = flat_map (λ p. in_group n p.line.number p.place) placed

-- the refused lines, in order
abbrev pub refused_in : List PlacedLine → List (ℕ × RefusedAt)
refused_in placed = flat_map (λ p. if_refused p.line.number p.place) placed

-- the catalogue is that of lines at these places, where `Share` says of two lines when they are in one group
pub record IsPartitionBy (Share : Level → PlacedLine → PlacedLine → Type 0)
    (placed : List PlacedLine) (catalogue : CatalogueParts) : Type 0 where
  pub each : Each (λ p. IsPlacedAs p.line.text p.place) placed
  pub same : Each (λ p. Each (Share catalogue.level p) placed) placed
  pub numbered : AreNumbered 0 placed (length catalogue.groups)
  -- each group has the numbers of its lines, and each refused line has its refusal
  pub lines : (n : ℕ) (group : GroupParts) → nth n catalogue.groups ≡ Some group → group.lines ≡ lines_in n placed
  pub refused : catalogue.refused ≡ refused_in placed

-- the catalogue is that of lines at these places
abbrev pub IsPartition : List PlacedLine → CatalogueParts → Type 0
IsPartition placed catalogue = IsPartitionBy ShareWhereSame placed catalogue

-- ---- the texts of a catalogue's groups

-- a line's group has the bytes that are of this form of the line's text, at the level
abbrev pub IsUnder : (Level → List ℕ → List ℕ → Type 0) → Level → List CanonicalText → List ℕ → Placed → Type 0
IsUnder Form level texts text Blank = Unit {0}
IsUnder Form level texts text (Refused refusal) = Unit {0}
IsUnder Form level texts text (Group n) =
    (canon : CanonicalText) × (nth n texts ≡ Some canon) ×
    (canon.level ≡ level) × Form level text canon.bytes

-- the text of a group is this form of each of its lines, and no two groups have the same
pub record HasTextsBy (Form : Level → List ℕ → List ℕ → Type 0) (placed : List PlacedLine)
    (catalogue : CatalogueParts) : Type 0 where
  pub texts : Each (λ p. IsUnder Form catalogue.level (canons catalogue.groups) p.line.text p.place) placed
  pub apart : (m n : ℕ) (canon : CanonicalText) → nth m (canons catalogue.groups) ≡ Some canon
      → nth n (canons catalogue.groups) ≡ Some canon → m ≡ n

-- the catalogue is that of lines at these places, and its texts are theirs, in this form
abbrev pub IsCatalogueBy : (Level → List ℕ → List ℕ → Type 0) →
    (Level → PlacedLine → PlacedLine → Type 0) → List PlacedLine → CatalogueParts → Type 0
IsCatalogueBy Form Share placed catalogue = IsPartitionBy Share placed catalogue × HasTextsBy Form placed catalogue

-- the catalogue is that of lines at these places, and its texts are their canonical texts
abbrev pub IsCatalogue : List PlacedLine → CatalogueParts → Type 0
IsCatalogue placed catalogue = IsCatalogueBy IsCanonicalOf ShareWhereSame placed catalogue

-- a further line at its place
abbrev pub then_line : List PlacedLine → ℕ → List ℕ → Placed → List PlacedLine
then_line placed number text place = placed ++ record { line = line_of number text; place = place } ∷ []

-- the catalogue is that of these lines, in this form of their texts
pub record IsCatalogueOfBy (Form : Level → List ℕ → List ℕ → Type 0)
    (Share : Level → PlacedLine → PlacedLine → Type 0) (lines : List Line)
    (catalogue : CatalogueParts) : Type 0 where
  pub placed : List PlacedLine
  pub are_lines : map (λ p. p.line) placed ≡ lines
  pub whole : IsCatalogueBy Form Share placed catalogue

-- the catalogue is that of these lines
abbrev pub IsCatalogueOf : List Line → CatalogueParts → Type 0
IsCatalogueOf lines catalogue = IsCatalogueOfBy IsCanonicalOf ShareWhereSame lines catalogue
