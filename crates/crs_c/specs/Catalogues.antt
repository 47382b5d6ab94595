-- What the calls of a catalogue answer.
use Rattle.std.specs.Prelude.{◌≡◌, ◌++◌, ◌∷◌, ◌⊎◌, [], ℕ, List, Option, Some, None, MatchOption, slice_get}
use Rattle.std.specs.Option.{option_map}
use Rattle.crs_value.specs.declared.values.level.Level.{Level}
use Rattle.crs_value.specs.declared.values.level.Level.TheVariants as level
use Rattle.crs_group.specs.Catalogue.{CatalogueParts, Line, line_of, nth}
use Rattle.crs_group.specs.GroupTexts.{IsCatalogue, IsCatalogueOf, then_line, PlacedLine}
use Rattle.crs_group.specs.UnderRules.{IsCatalogueOfUnder, IsCatalogueUnder}
use Rattle.crs_rules.specs.Rules.{RulesParts}
use Rattle.crs_group.specs.declared.placed.Placed.{Placed}
use Rattle.crs_group.specs.declared.placed.Placed.TheVariants as placed
use Rattle.crs_c.specs.declared.calls.catalogue.Numbered.{Numbered}
use Rattle.crs_c.specs.declared.calls.piece.Piece.{Piece}
use Rattle.crs_c.specs.declared.calls.catalogue.Standing.{Standing}
use Rattle.crs_c.specs.Codes.{level_numbered}
use Rattle.crs_c.specs.Pieces.{IsPiece}
use Rattle.crs_c.specs.Refusals.{no_refusal, place_and_number}

-- the catalogue of no lines at a level
abbrev pub empty_at : Level → CatalogueParts
empty_at level = record { level = level; groups = []; refused = [] }

-- the catalogue of no lines, under any rules, at the level of this number with code 0; at full, with
-- code 4, where no level has the number
unfoldable pub IsMadeEmpty : ℕ → CatalogueParts → ℕ → Type 0
IsMadeEmpty number made code =
    IsCatalogueOf [] made × ((rules : RulesParts) → IsCatalogueUnder rules [] made)
    × ((rules : RulesParts) → IsCatalogueOfUnder rules [] made)
    × MatchOption (level_numbered number) ((made ≡ empty_at level.Full) × (code ≡ 4))
    (λ l. (made ≡ empty_at l) × (code ≡ 0))

-- where a line was placed, as C sees it; group 0 is none
abbrev pub standing_of : Placed → Standing
standing_of placed.Blank = record { group = 0; refused = no_refusal; code = 0 }
standing_of (placed.Refused refusal) = record { group = 0; refused = place_and_number refusal; code = 1 }
standing_of (placed.Group n) = record { group = n; refused = no_refusal; code = 0 }

-- where a line was placed for which there was no memory: nowhere, with code 3
abbrev pub without_memory : Standing
without_memory = record { group = 0; refused = no_refusal; code = 3 }

-- the line is added, and its place is answered; or out of memory, with code 3, and the catalogue is as before
unfoldable pub IsAdded : ℕ → List ℕ → CatalogueParts → CatalogueParts → Standing → Type 0
IsAdded number text old new told =
    ((place : Placed) × (told ≡ standing_of place)
    × ((places : List PlacedLine) → IsCatalogue places old →
    IsCatalogue (then_line places number text place) new)
    × ((lines : List Line) → IsCatalogueOf lines old →
    IsCatalogueOf (lines ++ line_of number text ∷ []) new)
    × (new.level ≡ old.level))
    ⊎ ((told ≡ without_memory) × (new ≡ old))

-- the line is added under the rules, and its place is answered; or out of memory, with code 3, and
-- the catalogue is as before
unfoldable pub IsAddedUnder : RulesParts → ℕ → List ℕ → CatalogueParts → CatalogueParts → Standing → Type 0
IsAddedUnder rules number text old new told =
    ((place : Placed) × (told ≡ standing_of place)
    × ((places : List PlacedLine) → IsCatalogueUnder rules places old →
    IsCatalogueUnder rules (then_line places number text place) new)
    × ((lines : List Line) → IsCatalogueOfUnder rules lines old →
    IsCatalogueOfUnder rules (lines ++ line_of number text ∷ []) new)
    × (new.level ≡ old.level))
    ⊎ ((told ≡ without_memory) × (new ≡ old))

-- the line at an index, from 0, of these lines
abbrev pub line_of_some : Option (List ℕ) → ℕ → Option ℕ
line_of_some None index = None
line_of_some (Some lines) index = slice_get lines index

-- a number with code 0, or none with code 6
abbrev pub number_or_none : Option ℕ → Numbered
number_or_none None = record { number = 0; code = 6 }
number_or_none (Some n) = record { number = n; code = 0 }

-- the number of a group's line
abbrev pub line_at : CatalogueParts → ℕ → ℕ → Numbered
line_at catalogue group index =
    number_or_none
    (line_of_some (option_map (λ parts. parts.lines) (nth group catalogue.groups)) index)

-- a piece of a group's canonical text; code 6 where there is no such group
abbrev pub IsPieceAt : CatalogueParts → ℕ → ℕ → Piece → Type 0
IsPieceAt catalogue group from told =
    MatchOption (option_map (λ parts. parts.canon.bytes) (nth group catalogue.groups))
    ((told.code ≡ 6) × (told.length ≡ 0)) (IsPiece from told)
