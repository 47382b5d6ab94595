-- A bridge: what becomes of the groups when a line with a canonical text is put among them.
use Rattle.std.specs.Prelude.{◌≡◌, ◌⊎◌, ◌+◌, ◌++◌, ◌∷◌, [], ℕ, List, Some, length, slice_get, slice_set}
use Rattle.crs_text.specs.Refusal.{RefusedAt}
use Rattle.crs_text.specs.declared.fault.Fault.{Fault}
use Rattle.crs_text.specs.declared.fault.Fault.TheVariants as faults
use Rattle.crs_writer.specs.Canonical.{CanonicalText}
use Rattle.crs_group.specs.Catalogue.{GroupParts, canons}
use Rattle.crs_group.specs.declared.placed.Placed.{Placed}
use Rattle.crs_group.specs.declared.placed.Placed.TheVariants.{Refused, Group}

-- a group with a further line
abbrev pub with_line : ℕ → GroupParts → GroupParts
with_line line group = record { canon = group.canon; lines = group.lines ++ line ∷ [] }

-- a group of one line
abbrev pub group_of : CanonicalText → ℕ → GroupParts
group_of canon line = record { canon = canon; lines = line ∷ [] }

-- no group has this text
abbrev pub IsNew : CanonicalText → List GroupParts → Type 0
IsNew canon groups = (at : ℕ) → ¬ (slice_get (canons groups) at ≡ Some canon)

-- the group at this place, counted from 0, has a further line
pub record IsJoined (at line : ℕ) (before behind : List GroupParts) : Type 0 where
  pub group : GroupParts
  pub found : slice_get before at ≡ Some group
  pub changed : behind ≡ slice_set before at (with_line line group)

-- the line joins the group of its text, or begins a group of its own
abbrev pub IsPut : CanonicalText → ℕ → List GroupParts → List GroupParts → Placed → Type 0
IsPut canon line before behind place =
    ((at : ℕ) × (place ≡ Group (at + 1)) ×
    (slice_get (canons before) at ≡ Some canon) × IsJoined at line before behind)
    ⊎ (IsNew canon before × (place ≡ Group (length before + 1))
    × (behind ≡ before ++ group_of canon line ∷ []))

-- the fault is a refusal, with which the line is among the refused ones
abbrev pub IsRefused : Fault → ℕ → List (ℕ × RefusedAt) → List (ℕ × RefusedAt) → Placed → Type 0
IsRefused fault line before behind place =
    (refusal : RefusedAt) × (fault ≡ faults.Refused refusal) × (place ≡ Refused refusal)
    × (behind ≡ before ++ (line, refusal) ∷ [])
