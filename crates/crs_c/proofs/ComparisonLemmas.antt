-- What is made of two texts, by what is made of the second.
use Rattle.std.proofs.Common.{◌≡◌, List, Result, Ok, Err, MatchResult, ℕ, inl, inr}
use Rattle.crs_value.specs.declared.values.crs.Crs.{Crs}
use Rattle.crs_value.specs.inner.Prelude.{Spells}
use Rattle.crs_c.specs.declared.calls.refused.Refused.{Refused}
use Rattle.crs_c.specs.inner.Comparison.{IsMadeBehind, IsMadeOfBoth, IsPairFault, IsSecondFault}

-- the first text spells a CRS: what was made with the second text, or why nothing was
pub first-read : {M : Type 0} (Like : Crs → Crs → M → Type 0) (first second : List ℕ) (a : Crs) (result : Result M ℕ) (old new : Refused)
    → Spells first a
    → MatchResult result (λ made. IsMadeBehind (Like a) second made × (new ≡ old)) (λ code. IsSecondFault second old new code)
    → MatchResult result (λ made. IsMadeOfBoth Like first second made × (new ≡ old)) (λ code. IsPairFault first second old new code)
first-read Like first second a (Ok made) old new spelled (is, same) = ((a, spelled, is), same)
first-read Like first second a (Err code) old new spelled fault = inr (inl (a, spelled, fault))
