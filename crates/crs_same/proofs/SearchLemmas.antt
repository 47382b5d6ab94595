-- The search for the axis at a position: what is left decides.
use Rattle.std.proofs.Common.{◌≡◌, ℕ, ◌+◌, drop, List}
use Rattle.std.specs.Prelude.{⊤}
use Rattle.crs_value.specs.inner.Prelude.{AxisParts}
use Rattle.crs_same.specs.SameParts.{HasAt}

-- the axes from this index on, the first of which is written at this place, are searched still
pub record IsLeft (position place index : ℕ) (axes : List AxisParts) : Type 0 where
  pub counted : place ≡ index + 1
  pub found : (axis : AxisParts) → HasAt position (λ x. x ≡ axis) place (drop index axes) → HasAt position (λ x. x ≡ axis) 1 axes
  pub all : HasAt position (λ x. ⊤) 1 axes → HasAt position (λ x. ⊤) place (drop index axes)
