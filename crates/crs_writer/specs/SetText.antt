-- The text of a set: the spellings of its members, each once, in ascending order of their bytes, a comma between two.
use Rattle.std.specs.Prelude.{◌≡◌, ◌↔◌, ◌⊎◌, ℕ, List, [], ◌∷◌, ◌++◌}
use Rattle.crs_same.specs.SameIdents.{SameSet}
use Rattle.crs_normal.specs.Normal.{Ascends, IsIn}

-- the texts after one another, a comma before each
abbrev pub commas : List (List ℕ) → List ℕ
commas [] = []
commas (bytes ∷ others) = 44 ∷ (bytes ++ commas others)

-- the texts after one another, a comma between two
abbrev pub comma_separated : List (List ℕ) → List ℕ
comma_separated [] = []
comma_separated (bytes ∷ others) = bytes ++ commas others

-- the text is a spelling of one of these values
abbrev pub SpellsOneOf : {V : Type 0} → (V → List ℕ → Type 0) → List V → List ℕ → Type 0
SpellsOneOf IsSpelling [] text = ⊥
SpellsOneOf IsSpelling (value ∷ values) text = IsSpelling value text ⊎ SpellsOneOf IsSpelling values text

-- the bytes are just the spellings of these values, each once, in ascending order, a comma between two
pub record IsSetText {V : Type 0} (IsSpelling : V → List ℕ → Type 0) (values : List V)
    (bytes : List ℕ) : Type 0 where
  pub members : List (List ℕ)
  pub ascend : Ascends (λ text. text) members
  pub same : (text : List ℕ) → IsIn text members ↔ SpellsOneOf IsSpelling values text
  pub written : bytes ≡ comma_separated members

-- two sets, whose members are spelled so, have equal texts, byte for byte, exactly where they are the same
abbrev pub HaveOneTextWhereSame : {V : Type 0} → (V → V → Type 0) → (V → List ℕ → Type 0) → List V → List V → Type 0
HaveOneTextWhereSame Same IsSpelling a b = (first second : List ℕ) →
    IsSetText IsSpelling a first → IsSetText IsSpelling b second →
    (first ≡ second) ↔ SameSet Same a b
