-- A bridge: what one write tells of a sink.
use Rattle.std.specs.Prelude.{◌≡◌, ◌==◌, ◌||◌, ℕ, true, Result, MatchResult}
use Rattle.crs_streams.specs.Streams.{SinkState}

-- one more write: the writer was used; whether a failure was answered before, and whether one is answered now
pub record CountsWrite {E : Type 0} (old new : SinkState) (answer : Result ℕ E) : Type 0 where
  pub is_used : new.used ≡ true
  pub past_failure : new.past_failure ≡ (old.past_failure || old.failed)
  pub failure : MatchResult answer (λ count. new.failed ≡ (old.failed || (count == 0))) (λ _. new.failed ≡ true)
