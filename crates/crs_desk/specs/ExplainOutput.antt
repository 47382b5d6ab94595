-- What `explain` writes for a text and for two, in lines or as objects of JSON, and its status.
use Rattle.std.specs.Prelude.{◌≡◌, ◌++◌, ◌⊎◌, ℕ, List, [], codes}
use Rattle.crs_text.specs.Refusal.{RefusedAt}
use Rattle.crs_value.specs.declared.values.crs.Crs.{Crs}
use Rattle.crs_value.specs.declared.values.crs.Kind.{Kind}
use Rattle.crs_value.specs.declared.values.level.Level.{Level}
use Rattle.crs_value.specs.Spells.{Refuses, SpellsKind}
use Rattle.crs_same.specs.SameCrs.{SameCrs}
use Rattle.crs_explain.specs.Explained.{IsExplained}
use Rattle.crs_explain.specs.InOrder.{AreOrderedObjects, IsOrderedText}
use Rattle.crs_explain.specs.Json.{IsRefusalObject}
use Rattle.crs_desk.specs.Output.{IsLine, kind_told}
use Rattle.crs_desk.specs.declared.runs.manner.Manner.{Manner}
use Rattle.crs_desk.specs.declared.runs.manner.Manner.TheVariants as manner

-- the refusal of a text is written in some lines after the word that says which text it is, or as an object with that word
abbrev pub IsRefusalTold : Manner → List ℕ → List ℕ → RefusedAt → List ℕ → Type 0
IsRefusalTold manner.Lines which text refusal written =
    (told : List ℕ) × IsExplained text refusal told × (written ≡ which ++ told)
IsRefusalTold manner.Objects which text refusal written = IsRefusalObject which text refusal written

-- that two CRSs are the same is written as `same`, or as `{"same":true}`
abbrev pub same_told : Manner → List ℕ
same_told manner.Lines = codes "same"
same_told manner.Objects = codes "{\"same\":true}"

-- the parts in which two CRSs differ at a level are written in the order of some words, in a line each,
-- or as an object each
abbrev pub AreDifferencesTold : Manner → List (List ℕ) → Level → Crs → Crs → List ℕ → Type 0
AreDifferencesTold manner.Lines words level a b written = IsOrderedText words level a b written
AreDifferencesTold manner.Objects words level a b written = AreOrderedObjects words level a b written

-- the kind of the CRS that a text spells is written, with status 0
abbrev pub TellsKind : Manner → List ℕ → List ℕ → ℕ → Type 0
TellsKind how text written status =
    (found : Kind) × SpellsKind text found × IsLine (kind_told how found) 0 written status

-- the refusal of a text is written after the word that says which text it is, with status 1
abbrev pub TellsRefusalOf : Manner → List ℕ → List ℕ → List ℕ → ℕ → Type 0
TellsRefusalOf how which text written status =
    (refusal : RefusedAt) × Refuses text refusal × IsRefusalTold how which text refusal written
    × (status ≡ 1)

-- what `explain` writes for a text, and its status
unfoldable pub IsExplainOutput : Manner → List ℕ → List ℕ → ℕ → Type 0
IsExplainOutput how text written status = TellsKind how text written status ⊎ TellsRefusalOf how [] text written status

-- that two CRSs are the same is written, with status 0, or each part in which they differ, with status 1
abbrev pub TellsWhetherSame : Manner → List (List ℕ) → Level → Crs → Crs → List ℕ → ℕ → Type 0
TellsWhetherSame how words level a b written status =
    (SameCrs level a b × IsLine (same_told how) 0 written status)
    ⊎ ((¬ SameCrs level a b) × AreDifferencesTold how words level a b written × (status ≡ 1))
