-- The members of a set of parameters by their names.
use Rattle.std.specs.Prelude.{◌≡◌, ◌↔◌, ◌&&◌, ℕ, Bool, true, not, nat_le, if◌then◌else◌, Option, Some, None, List, [], ◌∷◌, length}
use Rattle.std.specs.List.{filter}
use Rattle.std.specs.Option.{is_some}
use Rattle.std.specs.Str.{bytes_eq}
use Rattle.crs_value.specs.Values.{ParameterParts}
use Rattle.crs_normal.specs.Normal.{Ascends, IsIn}

-- those of this name
abbrev pub of_name : List ℕ → List ParameterParts → List ParameterParts
of_name name xs = filter (λ x. bytes_eq x.name name) xs

-- the member of a list that has one alone
abbrev pub only : {V : Type 0} → List V → Option V
only [] = None
only (x ∷ []) = Some x
only (x ∷ y ∷ xs) = None

-- the parameter of this name, where it stands once among at most 64
abbrev pub named_once : List ℕ → List ParameterParts → Option ParameterParts
named_once name xs = if nat_le (length xs) 64 then only (of_name name xs) else None

-- whether this name stands once on each side
abbrev pub is_paired : (xs ys : List ParameterParts) → List ℕ → Bool
is_paired xs ys name = is_some (named_once name xs) && is_some (named_once name ys)

-- the first without those whose name stands once on each side
abbrev pub unpaired : (xs ys : List ParameterParts) → List ParameterParts
unpaired xs ys = filter (λ x. not (is_paired xs ys x.name)) xs

-- the names that stand once on each side, in ascending order of their bytes
pub record ArePairedNames (xs ys : List ParameterParts) (names : List (List ℕ)) : Type 0 where
  pub ascend : Ascends (λ name. name) names
  pub same : (name : List ℕ) → IsIn name names ↔ (is_paired xs ys name ≡ true)
