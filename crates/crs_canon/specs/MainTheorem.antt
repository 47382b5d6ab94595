-- The main theorem's statement.
use Rattle.std.specs.Prelude.{◌≡◌, ◌↔◌, ℕ, List}
use Rattle.crs_text.specs.Refusal.{RefusedAt}
use Rattle.crs_value.specs.Spells.{Spells, Refuses}
use Rattle.crs_value.specs.declared.values.crs.Crs.{Crs}
use Rattle.crs_value.specs.declared.values.level.Level.{Level}
use Rattle.crs_same.specs.SameCrs.{SameCrs}
use Rattle.crs_writer.specs.Canonical.{IsCanonicalOf}

-- the text spells some CRS
abbrev pub IsAccepted : List ℕ → Type 0
IsAccepted text = (crs : Crs) × Spells text crs

-- the two texts spell CRSs that are the same
abbrev pub SpellSame : Level → List ℕ → List ℕ → Type 0
SpellSame level first second = (x y : Crs) × Spells first x × Spells second y × SameCrs level x y

-- this refusal, and no other, is that of the text
pub record IsItsRefusal (text : List ℕ) (refusal : RefusedAt) : Type 0 where
  pub refused : Refuses text refusal
  pub alone : (other : RefusedAt) → Refuses text other → other ≡ refusal

-- the main theorem at a level, over all texts
pub record MainTheorem (level : Level) : Type 0 where
  -- each accepted text has a canonical text, and just one
  pub there : (text : List ℕ) → IsAccepted text → (bytes : List ℕ) × IsCanonicalOf level text bytes
  pub one : (text a b : List ℕ) → IsCanonicalOf level text a → IsCanonicalOf level text b → a ≡ b
  -- two accepted texts have equal canonical bytes exactly when the CRSs that they spell are the same
  pub equal : (first second a b : List ℕ) (x y : Crs) → Spells first x → Spells second y →
      IsCanonicalOf level first a → IsCanonicalOf level second b → (a ≡ b) ↔ SameCrs level x y
  -- a canonical text is itself accepted, spells the same CRS as its source, and is its own canonical text
  pub accepted : (text bytes : List ℕ) → IsCanonicalOf level text bytes → IsAccepted bytes
  pub same : (text bytes : List ℕ) (x y : Crs) → IsCanonicalOf level text bytes → Spells text x →
      Spells bytes y →
      SameCrs level x y
  pub own : (text bytes : List ℕ) → IsCanonicalOf level text bytes → IsCanonicalOf level bytes bytes
  -- a text that spells no CRS is refused, with one number and at one place
  pub refused : (text : List ℕ) → ¬ (IsAccepted text) → (refusal : RefusedAt) × IsItsRefusal text refusal
