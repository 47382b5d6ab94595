-- A bridge: names that are given once, those of none, and what is paired.
use Rattle.std.specs.Prelude.{◌≡◌, ◌⊎◌, ℕ, Some, List}
use Rattle.crs_value.specs.Values.{ParameterParts}
use Rattle.crs_normal.specs.Normal.{IsIn}
use Rattle.crs_canon.specs.Named.{named_once, unpaired}

-- what names tell of parameters
pub record NamesTell : Type 0 where
  -- one that is found by its name is among these, and has the name
  pub found : (name : List ℕ) (xs : List ParameterParts) (x : ParameterParts) → named_once name xs ≡ Some x →
      IsIn x xs × (x.name ≡ name)
  -- each is among those that are unpaired, or is found by its name, as is one on the other side
  pub either : (xs ys : List ParameterParts) (x : ParameterParts) → IsIn x xs → IsIn x (unpaired xs ys)
      ⊎ ((y : ParameterParts) × (named_once x.name xs ≡ Some x) × (named_once x.name ys ≡ Some y))
  -- those that are unpaired are among these
  pub left : (xs ys : List ParameterParts) (x : ParameterParts) → IsIn x (unpaired xs ys) → IsIn x xs
