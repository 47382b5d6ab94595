-- A bridge: what a walk over the parts of two values finds.
use Rattle.std.specs.Prelude.{◌≡◌, Option, Some, None, List, ◌++◌, ◌⊎◌}
use Rattle.crs_same.specs.declared.found.Found.{Found}
use Rattle.crs_same.specs.declared.found.Found.TheVariants as found
use Rattle.crs_same.specs.declared.step.Step.{Step}
use Rattle.crs_same.specs.Parts.{Parts, DifferenceParts, First, Differences}

-- nothing more is looked for
abbrev pub IsDone : Found → Type 0
IsDone (found.First None) = ⊥
IsDone (found.First (Some path)) = Unit {0}
IsDone (found.All before) = ⊥
IsDone (found.Refused error) = Unit {0}

-- there was no memory for a part
abbrev pub IsRefused : Found → Type 0
IsRefused (found.Refused error) = Unit {0}
IsRefused other = ⊥

-- all parts that differ were looked for
abbrev pub IsOfAll : Found → Type 0
IsOfAll (found.First path) = ⊥
IsOfAll other = Unit {0}

-- what is found over these parts, where so much was found before
abbrev pub Walks : Parts → Found → Found → Type 0
Walks parts (found.First None) new = (path : Option (List Step)) × (new ≡ found.First path) × First parts path
Walks parts (found.First (Some path)) new = new ≡ found.First (Some path)
Walks parts (found.All before) new =
    IsRefused new
    ⊎ ((further : List DifferenceParts) × (new ≡ found.All (before ++ further)) × Differences parts further)
Walks parts (found.Refused error) new = new ≡ found.Refused error

-- what is found over these parts, as one fact
pub record Walked (parts : Parts) (old new : Found) : Type 0 where
  pub walks : Walks parts old new
