-- A bridge: what is written of what was found.
use Rattle.std.specs.Prelude.{[], ℕ, List, Result, Ok, Err, Option, Some, None}
use Rattle.crs_text.specs.Refusal.{RefusedAt}
use Rattle.crs_value.specs.declared.values.crs.Kind.{Kind}
use Rattle.crs_desk.specs.Output.{IsLine, kind_told, refusal_told}
use Rattle.crs_desk.specs.ExplainOutput.{same_told}
use Rattle.crs_desk.specs.SameOutput.{difference_told}
use Rattle.crs_desk.specs.declared.runs.manner.Manner.{Manner}
use Rattle.crs_same.specs.declared.step.Step.{Step}
use Rattle.crs_same.specs.Paths.{path_text}

-- what is written of the first part that differs
abbrev pub WritesPart : Manner → Option (List Step) → List ℕ → ℕ → Type 0
WritesPart how None written status = IsLine (same_told how) 0 written status
WritesPart how (Some path) written status = IsLine (difference_told how (path_text path)) 1 written status

-- what is written for a kind or a refusal that was found
abbrev pub WritesFound : Manner → Result Kind RefusedAt → List ℕ → ℕ → Type 0
WritesFound how (Ok found) written status = IsLine (kind_told how found) 0 written status
WritesFound how (Err refusal) written status = IsLine (refusal_told how [] refusal) 1 written status
