-- A bridge: the groups that the entries of a map are.
use Rattle.std.specs.Prelude.{ℕ, List, map}
use Rattle.crs_writer.specs.Canonical.{CanonicalText}
use Rattle.crs_group.specs.Catalogue.{GroupParts}

-- the group of an entry: its canonical text, and the numbers of its lines
abbrev pub entry_group : {V : Type 0} → (V → List ℕ) → CanonicalText × V → GroupParts
entry_group lines entry = record { canon = entry.0; lines = lines entry.1 }

-- the groups of entries, in their order
abbrev pub groups_of : {V : Type 0} → (V → List ℕ) → List (CanonicalText × V) → List GroupParts
groups_of lines entries = map (λ entry. entry_group lines entry) entries
