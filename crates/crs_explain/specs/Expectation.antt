-- What is found at a place and what could stand there, and the line that says so.
use Rattle.std.specs.Prelude.{◌++◌, ◌∷◌, [], ℕ, List, Option, Some, None, codes, decimal}

-- what is found at a place, and the names of what could stand there; the node around it, by its keyword,
-- which is empty where the text is of no class, and by its first byte
pub record Expectation : Type 0 where
  pub node : List ℕ
  pub place : ℕ
  pub found : List ℕ
  pub names : List (List ℕ)

-- the same, or nothing where it isn't known what could stand there
abbrev pub or_nothing : Option Expectation → Expectation
or_nothing None = record { node = []; place = 0; found = []; names = [] }
or_nothing (Some e) = e

-- names with commas between, and an `or` before the last
abbrev pub listed : List (List ℕ) → List ℕ
listed [] = []
listed (name ∷ []) = name
listed (name ∷ other ∷ []) = name ++ codes " or " ++ other
listed (name ∷ other ∷ more ∷ names) = name ++ codes ", " ++ listed (other ∷ more ∷ names)

-- `in GEOGCRS at 0`, or `at 0` where there is no keyword
abbrev pub node_at : List ℕ → ℕ → List ℕ
node_at [] place = codes "at " ++ decimal place
node_at (b ∷ word) place = codes "in " ++ (b ∷ word) ++ codes " at " ++ decimal place

-- the line of a node, of what is found and of some names; no line where there are none
abbrev pub line_of : List ℕ → List ℕ → List (List ℕ) → List ℕ
line_of node found [] = []
line_of node found (name ∷ names) =
    node ++ codes ": found " ++ found ++ codes ", expected " ++ listed (name ∷ names) ++ 10 ∷ []

-- the line of what is found and what could stand there
abbrev pub expected_line : Expectation → List ℕ
expected_line e = line_of (node_at e.node e.place) e.found e.names
