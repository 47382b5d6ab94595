-- What `same` and other comparisons write for two texts, and the status.
use Rattle.std.specs.Prelude.{◌⊎◌, ℕ, List, codes, ◌++◌, Some}
use Rattle.crs_value.specs.declared.values.crs.Crs.{Crs}
use Rattle.crs_value.specs.Spells.{Spells}
use Rattle.crs_value.specs.declared.values.level.Level.{Level}
use Rattle.crs_same.specs.declared.step.Step.{Step}
use Rattle.crs_same.specs.Parts.{FirstInCrs}
use Rattle.crs_same.specs.Paths.{path_text}
use Rattle.crs_same.specs.SameCrs.{SameCrs}
use Rattle.crs_streams.specs.Json.{json_text}
use Rattle.crs_desk.specs.ExplainOutput.{same_told}
use Rattle.crs_desk.specs.Output.{IsLine, WritesRefusalOf}
use Rattle.crs_desk.specs.declared.runs.manner.Manner.{Manner}
use Rattle.crs_desk.specs.declared.runs.manner.Manner.TheVariants as manner

-- ---- what is written for two texts that are compared, and the status

-- what is written of the second of two texts, where the first spells a CRS: the refusal of the
-- second after the word for it, or the comparison with the CRS that it spells
abbrev pub IsSecondOutput : (List ℕ → List ℕ → List ℕ → ℕ → Type 0) → (Crs → List ℕ → ℕ → Type 0) →
    List ℕ → List ℕ → ℕ → Type 0
IsSecondOutput Refused Compared second written status =
    Refused (codes "second ") second written status
    ⊎ ((b : Crs) × Spells second b × Compared b written status)

-- what is written for two texts, given how a refusal is written after the word for its text, and
-- how two CRSs are compared
unfoldable pub IsPairOutput : (List ℕ → List ℕ → List ℕ → ℕ → Type 0) →
    (Crs → Crs → List ℕ → ℕ → Type 0) → List ℕ → List ℕ → List ℕ → ℕ → Type 0
IsPairOutput Refused Compared first second written status =
    Refused (codes "first ") first written status
    ⊎ ((a : Crs) × Spells first a × IsSecondOutput Refused (Compared a) second written status)

-- ---- what `same` writes for two texts, and the status

-- that two CRSs differ is written as `different` and the path to the first part that does, or as `{"same":false,"path":"id"}`
abbrev pub difference_told : Manner → List ℕ → List ℕ
difference_told manner.Lines path = codes "different " ++ path
difference_told manner.Objects path = codes "{\"same\":false,\"path\":" ++ json_text path ++ codes "}"

-- that two CRSs are the same is written with status 0, or the first part that differs with status 1
abbrev pub WritesWhetherSame : Manner → Level → Crs → Crs → List ℕ → ℕ → Type 0
WritesWhetherSame how level a b written status =
    (SameCrs level a b × IsLine (same_told how) 0 written status)
    ⊎ ((path : List Step) × FirstInCrs level a b (Some path)
    × IsLine (difference_told how (path_text path)) 1 written status)

-- what `same` writes for two texts, and its status
abbrev pub IsSameOutput : Manner → Level → List ℕ → List ℕ → List ℕ → ℕ → Type 0
IsSameOutput how level = IsPairOutput (WritesRefusalOf how) (WritesWhetherSame how level)
