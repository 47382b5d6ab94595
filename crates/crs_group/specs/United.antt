-- How the catalogues of the same lines at two levels are related: the groups of the one are unions
-- of the groups of the other.
use Rattle.std.specs.Prelude.{◌≡◌, ℕ, List, Some, slice_get}
use Rattle.crs_group.specs.declared.placed.Placed.TheVariants.{Group}
use Rattle.crs_group.specs.GroupTexts.{PlacedLine}

-- the line that was added at this place, from 0, is in this group
abbrev pub IsInGroup : List PlacedLine → ℕ → ℕ → Type 0
IsInGroup placed at n = (p : PlacedLine) × (slice_get placed at ≡ Some p) × (p.place ≡ Group n)

-- lines that are in one group are in one group there too
abbrev pub AreUnited : List PlacedLine → List PlacedLine → Type 0
AreUnited placed united = (i j m : ℕ) → IsInGroup placed i m → IsInGroup placed j m →
    (n : ℕ) × IsInGroup united i n × IsInGroup united j n
