-- What is in a buffer of the caller's after a call.
use Rattle.std.specs.Prelude.{◌≡◌, ◌++◌, ◌≤◌, ◌<◌, ◌⊎◌, ℕ, List, length, drop}
use Rattle.crs_c.specs.Answers.{Answer}

-- all that the buffer holds, and the length that is answered
pub record Buffer (A : Type 0) : Type 0 where
  pub items : List A
  pub told : ℕ

-- the answer is at the buffer's front and its length is answered, with code 0; or there is too
-- little room for it, and its length alone is answered, with code 5
unfoldable pub IsGiven : {A : Type 0} → List A → Buffer A → Buffer A → ℕ → Type 0
IsGiven answer old new code =
    ((length answer ≤ length old.items) × (code ≡ 0)
    × (new.items ≡ answer ++ drop (length answer) old.items) × (new.told ≡ length answer))
    ⊎ ((length old.items < length answer) × (code ≡ 5) × (new.items ≡ old.items)
    × (new.told ≡ length answer))

-- bytes like these are given, with their code, and the place of the refusal is as before
abbrev pub Gives : (List ℕ → Type 0) → Answer (Buffer ℕ)
Gives Like old new code =
    (bytes : List ℕ) × Like bytes × IsGiven bytes old.answer new.answer code × (new.refused ≡ old.refused)
