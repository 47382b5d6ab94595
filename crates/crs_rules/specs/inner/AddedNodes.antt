-- A bridge: the nodes that stood, with one more.
use Rattle.std.specs.Prelude.{◌≡◌, ◌++◌, ◌∷◌, [], Bool, List, true, false}
use Rattle.crs_value.specs.Reading.{OneIs}
use Rattle.crs_rules.specs.Members.{MemberParts}

-- a node is added, or was among them and they are as before
abbrev pub IsAdded : List MemberParts → MemberParts → Bool → List MemberParts → Type 0
IsAdded seen m true more = ¬ (OneIs (λ n. m ≡ n) seen) × (more ≡ seen ++ m ∷ [])
IsAdded seen m false more = OneIs (λ n. m ≡ n) seen × (more ≡ seen)
