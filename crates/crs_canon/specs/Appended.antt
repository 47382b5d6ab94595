-- What is appended to bytes, where there is memory for it.
use Rattle.std.specs.Prelude.{◌≡◌, ℕ, List, MatchResult, Result}
use Rattle.crs_writer.specs.Canonical.{AppendsSpelling}

-- one spelling of this kind is appended, or, on an error, nothing
abbrev pub AppendsOrNothing : {T E : Type 0} → Result T E → (List ℕ → Type 0) → (before after : List ℕ) → Type 0
AppendsOrNothing result IsSpelling before after =
    MatchResult result (λ _. AppendsSpelling IsSpelling before after) (λ _. after ≡ before)
