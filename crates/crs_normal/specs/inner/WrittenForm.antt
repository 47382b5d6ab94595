-- A bridge: a text that is computed from a value is its one spelling.
use Rattle.std.specs.Prelude.{◌≡◌, ℕ, List}
use Rattle.crs_value.specs.declared.values.level.Level.{Level}
use Rattle.crs_normal.specs.CanonicalForm.{IsCanonicalForm}

-- values have one spelling each, and the text of a value is that spelling
pub record IsWrittenForm {V : Type 0} (IsValue : V → Type 0) (Same : V → V → Type 0)
    (IsSpelling : V → List ℕ → Type 0) (text : V → List ℕ) : Type 0 where
  pub form : IsCanonicalForm IsValue Same IsSpelling
  pub written : (value : V) (bytes : List ℕ) → IsValue value → bytes ≡ text value → IsSpelling value bytes

-- they are so at each level
abbrev pub AreWrittenForms : {V : Type 0} → (V → Type 0) → (Level → V → V → Type 0) →
    (Level → V → List ℕ → Type 0) → (Level → V → List ℕ) → Type 0
AreWrittenForms IsValue Same IsSpelling text =
    (level : Level) → IsWrittenForm IsValue (Same level) (IsSpelling level) (text level)
