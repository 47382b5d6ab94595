-- What is appended as a text is appended as a spelling, where the text is one.
use Rattle.std.proofs.Common.{◌≡◌, ◌++◌, ◌∙◌, [], ℕ, List, MatchResult, Ok, Err, Result, ap, if◌then◌else◌}
use Rattle.std.specs.Result.{is_ok}
use Rattle.crs_writer.specs.inner.Prelude.{AppendsSpelling}

-- by `extend_from_slice`, of bytes that are the text
pub extended : {T E : Type 0} (IsSpelling : List ℕ → Type 0) (before after bytes text : List ℕ) (r : Result T E) →
    after ≡ (if is_ok r then before ++ bytes else before) → bytes ≡ text → IsSpelling text →
    MatchResult r (λ _. AppendsSpelling IsSpelling before after) (λ _. after ≡ before)
extended IsSpelling before after bytes text (Ok x) e same is =
    record { spelling = text; appended = e ∙ ap (λ s. before ++ s) same; is_spelling = is }
extended IsSpelling before after bytes text (Err x) e same is = e

-- what is appended to an empty vector is all that is in it
pub whole : (start text items now : List ℕ) → now ≡ items → items ≡ start ++ text → start ≡ [] → now ≡ text
whole start text items now e f g = e ∙ f ∙ ap (λ s. s ++ text) g
