-- What crsdesk_explain and crsdesk_differences answer.
use Rattle.std.specs.Prelude.{◌≡◌, ◌⊎◌, ◌↔◌, ℕ, List, []}
use Rattle.crs_text.specs.Refusal.{RefusedAt}
use Rattle.crs_value.specs.declared.values.crs.Crs.{Crs}
use Rattle.crs_value.specs.declared.values.level.Level.{Level}
use Rattle.crs_value.specs.Spells.{Spells, Refuses}
use Rattle.crs_same.specs.SameCrs.{SameCrs}
use Rattle.crs_explain.specs.Explained.{IsExplained}
use Rattle.crs_explain.specs.Differing.{IsDifferencesText}
use Rattle.crs_c.specs.Answers.{Answer, IsAtLevel}
use Rattle.crs_c.specs.Buffers.{Buffer, IsGiven, Gives}
use Rattle.crs_c.specs.Pairs.{IsPairAnswer}

-- the explanation of a text's refusal; none for a text that spells a CRS
abbrev pub IsExplanation : List ℕ → List ℕ → Type 0
IsExplanation text told =
    ((refusal : RefusedAt) × Refuses text refusal × IsExplained text refusal told)
    ⊎ ((crs : Crs) × Spells text crs × (told ≡ []))

-- the explanation is given, with its code; or code 3, and all is as before
unfoldable pub IsExplainAnswer : List ℕ → Buffer ℕ → Buffer ℕ → ℕ → Type 0
IsExplainAnswer text old new code =
    ((told : List ℕ) × IsExplanation text told × IsGiven told old new code) ⊎ ((code ≡ 3) × (new ≡ old))

-- the lines of all parts in which two CRSs differ at a level; no lines exactly where they are the same
abbrev pub AreLines : Level → Crs → Crs → List ℕ → Type 0
AreLines level a b lines = IsDifferencesText level a b lines × ((lines ≡ []) ↔ SameCrs level a b)

-- these lines of the CRSs of two texts at the level of this number, where there is such a level
abbrev pub IsDifferencesAnswer : ℕ → List ℕ → List ℕ → Answer (Buffer ℕ)
IsDifferencesAnswer level first second =
    IsAtLevel level (λ l. IsPairAnswer (λ a b. Gives (AreLines l a b)) first second)
