-- What the spellings of one kind of values have in common.
use Rattle.std.specs.Prelude.{◌≡◌, ◌↔◌, ℕ, List}
use Rattle.crs_normal.specs.Closed.{IsClosed}

-- each value has one spelling, and two spellings are equal exactly where the values are the same
pub record IsCanonicalForm {V : Type 0} (IsValue : V → Type 0) (Same : V → V → Type 0)
    (IsSpelling : V → List ℕ → Type 0) : Type 0 where
  -- each value has a spelling
  pub there : (value : V) → IsValue value → (bytes : List ℕ) × IsSpelling value bytes
  -- and no other
  pub one : (value : V) (first second : List ℕ) → IsValue value → IsSpelling value first →
      IsSpelling value second → first ≡ second
  -- spellings of two values are equal, byte for byte, exactly where the values are the same
  pub equal : (a b : V) (first second : List ℕ) → IsValue a → IsValue b → IsSpelling a first →
      IsSpelling b second → (first ≡ second) ↔ Same a b
  -- each is a word, `[`, and all up to the `]` that first closes it, outside quotes
  pub closed : (value : V) (bytes : List ℕ) → IsValue value → IsSpelling value bytes → IsClosed bytes
