-- What is at the caller's places after a call, and the answers that several calls share.
use Rattle.std.specs.Prelude.{◌≡◌, ℕ, List, MatchOption}
use Rattle.crs_text.specs.Refusal.{RefusedAt}
use Rattle.crs_value.specs.declared.values.level.Level.{Level}
use Rattle.crs_value.specs.Spells.{Refuses}
use Rattle.crs_c.specs.declared.calls.refused.Refused.{Refused}
use Rattle.crs_c.specs.Codes.{level_numbered}
use Rattle.crs_c.specs.Refusals.{place_and_number}

-- the caller's places where a call puts its answer, and why a text is refused
pub record AnswerPlaces (A : Type 0) : Type 0 where
  pub answer : A
  pub refused : Refused

-- what is said of a call: of the caller's places before it and after it, and of its code
abbrev pub Answer : Type 0 → Type 1
Answer A = AnswerPlaces A → AnswerPlaces A → ℕ → Type 0

-- the text is refused: the refusal is at its place, with this code, and the answer's place is as before
abbrev pub IsRefusedBy : {A : Type 0} → ℕ → List ℕ → Answer A
IsRefusedBy refusing text old new code =
    (refusal : RefusedAt) × Refuses text refusal × (code ≡ refusing)
    × (new ≡ record old { refused = place_and_number refusal })

-- out of memory, with code 3, and all is as before
abbrev pub IsWithoutMemory : {A : Type 0} → Answer A
IsWithoutMemory old new code = (code ≡ 3) × (new ≡ old)

-- the answer at the level of this number; code 4, and all as before, where there is no such level
abbrev pub IsAtLevel : {A : Type 0} → ℕ → (Level → Answer A) → Answer A
IsAtLevel number Is old new code =
    MatchOption (level_numbered number) ((code ≡ 4) × (new ≡ old)) (λ level. Is level old new code)
