-- What crsdesk_first_part answers.
use Rattle.std.specs.Prelude.{◌≡◌, ◌↔◌, ℕ, List, [], Option, Some, None}
use Rattle.crs_value.specs.declared.values.crs.Crs.{Crs}
use Rattle.crs_value.specs.declared.values.level.Level.{Level}
use Rattle.crs_same.specs.declared.step.Step.{Step}
use Rattle.crs_same.specs.Parts.{FirstInCrs}
use Rattle.crs_same.specs.Paths.{path_text}
use Rattle.crs_same.specs.SameCrs.{SameCrs}
use Rattle.crs_c.specs.Answers.{Answer, IsAtLevel}
use Rattle.crs_c.specs.Buffers.{Buffer, Gives}
use Rattle.crs_c.specs.Pairs.{IsPairAnswer}

-- the words of a path, none where there is none
abbrev pub words_of : Option (List Step) → List ℕ
words_of None = []
words_of (Some path) = path_text path

-- these are the words of the first part in which two CRSs differ: none exactly where they are the same
abbrev pub IsFirstPartText : Level → Crs → Crs → List ℕ → Type 0
IsFirstPartText level a b words =
    (found : Option (List Step)) × FirstInCrs level a b found × ((found ≡ None) ↔ SameCrs level a b)
    × (words ≡ words_of found) × ((words ≡ []) ↔ SameCrs level a b)

-- the first part in which the CRSs of two texts differ at the level of this number, where there is such a level
abbrev pub IsPartAnswer : ℕ → List ℕ → List ℕ → Answer (Buffer ℕ)
IsPartAnswer level first second =
    IsAtLevel level (λ l. IsPairAnswer (λ a b. Gives (IsFirstPartText l a b)) first second)
