-- What crsdesk_difference_pieces and crsdesk_refusal_pieces answer.
use Rattle.std.specs.Prelude.{◌≡◌, ◌==◌, ◌⊎◌, ◌↔◌, ℕ, List, [], if◌then◌else◌}
use Rattle.crs_text.specs.Refusal.{RefusedAt}
use Rattle.crs_value.specs.declared.values.crs.Crs.{Crs}
use Rattle.crs_value.specs.declared.values.level.Level.{Level}
use Rattle.crs_value.specs.Spells.{Spells, Refuses}
use Rattle.crs_same.specs.SameCrs.{SameCrs}
use Rattle.crs_explain.specs.Differing.{AreDifferencePieces}
use Rattle.crs_explain.specs.Explained.{AreExplainedPieces, ExplainedPieces}
use Rattle.crs_c.specs.declared.calls.explain.Explained.{Explained}
use Rattle.crs_c.specs.Answers.{Answer, IsAtLevel}
use Rattle.crs_c.specs.Pairs.{IsPairAnswer}
use Rattle.crs_c.specs.PieceBuffers.{AreGiven, GivesPieces, PieceBuffers}
use Rattle.crs_c.specs.Refusals.{place_and_number}

-- three pieces for each part in which two CRSs differ at a level; no pieces exactly where they are the same
abbrev pub ArePieces : Level → Crs → Crs → List (List ℕ) → Type 0
ArePieces level a b pieces = AreDifferencePieces level a b pieces × ((pieces ≡ []) ↔ SameCrs level a b)

-- these pieces of the CRSs of two texts at the level of this number, where there is such a level
abbrev pub IsDifferencePiecesAnswer : ℕ → List ℕ → List ℕ → Answer PieceBuffers
IsDifferencePiecesAnswer level first second =
    IsAtLevel level (λ l. IsPairAnswer (λ a b. GivesPieces (ArePieces l a b)) first second)

-- the caller's places for an explanation in pieces
pub record ExplainedPlaces : Type 0 where
  pub buffers : PieceBuffers
  pub explained : Explained

-- a refusal and the numbers of its explanation
abbrev pub refusal_and_numbers : RefusedAt → ExplainedPieces → Explained
refusal_and_numbers refusal told = record {
  refused = place_and_number refusal;
  line = told.line;
  column = told.column;
  node = told.node;
}

-- an explanation of this refusal is given: its numbers, and its pieces, with code 1 where they have room
unfoldable pub IsExplanationGiven : RefusedAt → ExplainedPieces → ExplainedPlaces → ExplainedPlaces → ℕ → Type 0
IsExplanationGiven refusal told old new code =
    (given : ℕ) × AreGiven told.pieces old.buffers new.buffers given
    × (new.explained ≡ refusal_and_numbers refusal told) × (code ≡ (if given == 0 then 1 else given))

-- the explanation of a text's refusal is given, with its code; or code 3, and all is as before
unfoldable pub IsRefusalExplained : List ℕ → ExplainedPlaces → ExplainedPlaces → ℕ → Type 0
IsRefusalExplained text old new code =
    ((refusal : RefusedAt) × Refuses text refusal × (told : ExplainedPieces) × AreExplainedPieces text refusal told
    × IsExplanationGiven refusal told old new code)
    ⊎ ((code ≡ 3) × (new ≡ old))

-- the same of a text that spells no CRS; of another code 0, and all is as before
unfoldable pub IsRefusalPiecesAnswer : List ℕ → ExplainedPlaces → ExplainedPlaces → ℕ → Type 0
IsRefusalPiecesAnswer text old new code =
    ((crs : Crs) × Spells text crs × (code ≡ 0) × (new ≡ old)) ⊎ IsRefusalExplained text old new code
