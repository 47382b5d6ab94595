-- Members of lists by their places.
use Rattle.std.proofs.Common.{◌≡◌, ℕ, List, Some, slice_get}
use Rattle.std.proofs.lemmas.Option.{slice_get-map}
use Rattle.crs_group.specs.Catalogue.{GroupParts, canons}

-- the text of the group at a place
pub canon-at : (groups : List GroupParts) (at : ℕ) (group : GroupParts) → slice_get groups at ≡ Some group
    → slice_get (canons groups) at ≡ Some group.canon
canon-at groups at group e = rw (slice_get-map, e)
