-- Identifiers, and values that have a name and identifiers alone, as they are written.
use Rattle.std.specs.Prelude.{ℕ, List, Option}

-- an identifier
pub record IdentParts : Type 0 where
  pub authority : List ℕ
  pub code : List ℕ
  pub version : Option (List ℕ)
  pub citation : Option (List ℕ)
  pub uri : Option (List ℕ)

-- a value that has a name and identifiers alone: a member of a datum ensemble,
-- the method of a conversion, a geoid model or a deformation model
pub record NamedParts : Type 0 where
  pub name : List ℕ
  pub identifiers : List IdentParts
