-- Groups are written one after the other.
use Rattle.std.proofs.Common.{◌≡◌, ◌+◌, ◌<◌, ◌++◌, ◌∷◌, [], ℕ, zero, suc, List, Some, length, slice_get, drop, refl, add-one, append_assoc, arith}
use Rattle.crs_group.specs.Catalogue.{GroupParts, nth}
use Rattle.crs_group.specs.GroupOutput.{group_lines, listed_line}
use Rattle.crs_group.specs.declared.listing.Listing.{Listing}

-- the groups from a place on: the one that is there, and those after it
split-at : (groups : List GroupParts) (at : ℕ) → at < length groups
    → (group : GroupParts) × (slice_get groups at ≡ Some group) × (drop at groups ≡ group ∷ drop (suc at) groups)
split-at [] at within = absurd (omega arith)
split-at (g ∷ gs) zero within = (g, refl, refl)
split-at (g ∷ gs) (suc at) within = split-at gs at (omega arith)

-- a further group is written
pub group-step : (listing : Listing) (names : List (List ℕ)) (all now next : List ℕ) (groups : List GroupParts) (at : ℕ)
    → at < length groups
    → ((group : GroupParts) → nth (at + 1) groups ≡ Some group → next ≡ now ++ listed_line listing names (at + 1) group)
    → now ++ group_lines listing names (at + 1) (drop at groups) ≡ all
    → next ++ group_lines listing names (at + 1 + 1) (drop (at + 1) groups) ≡ all
group-step listing names all now next groups at within written so-far =
    let (group, here, parts) = split-at groups at within in
    let rest : drop at groups ≡ group ∷ drop (at + 1) groups = rw add-one parts in
    rw (written group (rw add-one here), append_assoc) (rw rest at so-far)
