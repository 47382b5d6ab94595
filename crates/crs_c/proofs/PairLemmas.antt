-- What a call answers of two texts, by what was made of them or by why nothing was.
use Rattle.std.proofs.Common.{◌≡◌, List, Option, Some, MatchOption, ℕ, inl, inr, ap, subst}
use Rattle.crs_value.specs.declared.values.crs.Crs.{Crs}
use Rattle.crs_value.specs.declared.values.level.Level.{Level}
use Rattle.crs_c.specs.declared.calls.refused.Refused.{Refused}
use Rattle.crs_c.specs.Answers.{Answer, AnswerPlaces, IsAtLevel}
use Rattle.crs_c.specs.Codes.{level_numbered}
use Rattle.crs_c.specs.inner.Comparison.{IsMadeOfBoth, IsPairFault}
use Rattle.crs_c.specs.Pairs.{IsPairAnswer, IsSecondAnswer}

-- there is a level of the number
pub at-level : {A : Type 0} (number : ℕ) (level : Level) (Is : Level → Answer A) (old new : AnswerPlaces A) (code : ℕ)
    → Some level ≡ level_numbered number → Is level old new code → IsAtLevel number Is old new code
at-level number level Is old new code e is =
    subst (λ (o : Option Level). MatchOption o ((code ≡ 4) × (new ≡ old)) (λ l. Is l old new code)) e is

-- nothing was made: the answer's place is as before
pub pair-fault : {A : Type 0} (Is : Crs → Crs → Answer A) (first second : List ℕ) (answer : A) (old new : Refused) (code : ℕ)
    → IsPairFault first second old new code
    → IsPairAnswer Is first second (record { answer = answer; refused = old }) (record { answer = answer; refused = new }) code
unfolding IsPairAnswer IsSecondAnswer
pair-fault Is first second answer old new code (inl (refusal, refuses, coded, told)) =
    inl (refusal, refuses, coded, ap (λ r. record { answer = answer; refused = r }) told)
pair-fault Is first second answer old new code (inr (inl (a, spelled, inl (refusal, refuses, coded, told)))) =
    inr (inl (a, spelled, inr (inl (refusal, refuses, coded, ap (λ r. record { answer = answer; refused = r }) told))))
pair-fault Is first second answer old new code (inr (inl (a, spelled, inr (coded, same)))) =
    inr (inr (coded, ap (λ r. record { answer = answer; refused = r }) same))
pair-fault Is first second answer old new code (inr (inr (coded, same))) =
    inr (inr (coded, ap (λ r. record { answer = answer; refused = r }) same))

-- something was made, and it is answered
pub pair-made : {A M : Type 0} (Is : Crs → Crs → Answer A) (Like : Crs → Crs → M → Type 0) (first second : List ℕ) (made : M)
    (old new : AnswerPlaces A) (code : ℕ) → IsMadeOfBoth Like first second made
    → ((a b : Crs) → Like a b made → Is a b old new code) → IsPairAnswer Is first second old new code
unfolding IsPairAnswer IsSecondAnswer
pair-made Is Like first second made old new code (a, first-is, behind) answers =
    inr (inl (a, first-is, inl (behind.0, behind.1, answers a behind.0 behind.2)))
