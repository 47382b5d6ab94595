-- The numbers of faults of shape, and the places at which they can be.
use Rattle.std.specs.Prelude.{◌≡◌, ℕ, ◌⊎◌}
use Rattle.crs_text.specs.Items.{Item, leaf, node, Siblings, End, More}

-- an item isn't allowed where it is, its keyword being unknown or known, or arguments aren't complete
abbrev pub IsShapeNumber : ℕ → Type 0
IsShapeNumber n = (n ≡ 11) ⊎ ((n ≡ 12) ⊎ (n ≡ 13))

abbrev mutual
  -- the first byte of the item or of one within it, or the closing delimiter of a node among them
  pub IsPlaceIn : Item → ℕ → Type 0
  IsPlaceIn (leaf kind place raw) p = p ≡ place
  IsPlaceIn (node place keyword square first others close) p =
      (p ≡ place) ⊎ ((p ≡ close) ⊎ (IsPlaceIn first p ⊎ IsPlaceAmong others p))

  -- the first byte of one of these items or of one within them, or the closing delimiter of a node among all these
  pub IsPlaceAmong : Siblings → ℕ → Type 0
  IsPlaceAmong End p = ⊥
  IsPlaceAmong (More item items) p = IsPlaceIn item p ⊎ IsPlaceAmong items p
