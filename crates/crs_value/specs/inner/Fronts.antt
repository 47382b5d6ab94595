-- Lists that have more behind them.
use Rattle.std.specs.Prelude.{◌≤◌, ◌<◌, ℕ, List, Option, None, Some, drop, length, take}
use Rattle.crs_value.specs.Members.{HaveSameMembers}

-- so many from the front as it counts, or all where there is none
unfoldable pub front : {A B : Type 0} → (B → ℕ) → Option B → List A → List A
front count None xs = xs
front count (Some b) xs = take (count b) xs

-- so many are there, and what is behind them, if anything, has the same members
abbrev pub AreFollowedByOnce : {A : Type 0} → ℕ → List A → Type 0
AreFollowedByOnce count xs = (count ≤ length xs) × (count < length xs → HaveSameMembers (drop count xs) (take count xs))
