-- A bridge: where aliases are looked for. Of each digest a place is kept, before which no alias of that digest stands.
use Rattle.std.specs.Prelude.{◌≡◌, ◌≤◌, ℕ, suc, List, [], ◌∷◌, None, Option, Some, nat_eq}
use Rattle.std.specs.Hash.{le_bytes}
use Rattle.std.specs.Hash.DefaultHasher.{finish, initial, write}
use Rattle.std.specs.Map.{lookup}
use denote.Enum.Declared.{tag_of}
use Rattle.crs_shape.specs.contracts.class.Class.{the_type}
use Rattle.crs_shape.specs.declared.class.Class.{Class}

-- SipHash-1-3 of a name and the number of a class, with both keys 0
abbrev pub name_digest : Class → List ℕ → ℕ
name_digest c name = finish (write (write initial name) (le_bytes 8 (tag_of the_type c)))

-- SipHash-1-3 of a name and the digits of a factor, with both keys 0
abbrev pub unit_digest : List ℕ → ℕ → ℕ
unit_digest name digits = finish (write (write initial name) (le_bytes 16 digits))

-- what is behind a pointer, if it is there
abbrev pub held : {A B : Type 0} → (B → List A) → Option B → List A
held of None = []
held of (Some b) = of b

-- the place that is kept for a digest
abbrev pub place_of : List (ℕ × ℕ) → ℕ → Option ℕ
place_of firsts digest = lookup (nat_eq digest) firsts

-- what has this digest and stands at this place is found
abbrev pub IsFound : List (ℕ × ℕ) → ℕ → ℕ → Type 0
IsFound firsts digest at = (first : ℕ) × (place_of firsts digest ≡ Some first) × (first ≤ at)

-- each of these, of which the first stands at this place, is found
abbrev pub AreFound : {A : Type 0} → (A → ℕ) → List (ℕ × ℕ) → ℕ → List A → Type 0
AreFound digest firsts at [] = Unit {0}
AreFound digest firsts at (x ∷ xs) = IsFound firsts (digest x) at × AreFound digest firsts (suc at) xs

-- what has this digest and stands at this place is found, and all that was
abbrev pub IsNoted : ℕ → ℕ → List (ℕ × ℕ) → List (ℕ × ℕ) → Type 0
IsNoted digest at before behind = IsFound behind digest at × ((d n : ℕ) → IsFound before d n → IsFound behind d n)
