-- A bridge: what a refusal is answered with.
use Rattle.std.specs.Prelude.{◌≡◌, ℕ, Option, Some, None}
use Rattle.crs_text.specs.Refusal.{RefusedAt}
use Rattle.crs_c.specs.declared.calls.refused.Refused.{Refused}
use Rattle.crs_c.specs.Refusals.{place_and_number}

-- a refusal is answered with this code; without one there was no memory, and nothing is answered
abbrev pub IsTold : Option RefusedAt → ℕ → Refused → Refused → ℕ → Type 0
IsTold (Some refusal) code old new result = (result ≡ code) × (new ≡ place_and_number refusal)
IsTold None code old new result = (result ≡ 3) × (new ≡ old)
