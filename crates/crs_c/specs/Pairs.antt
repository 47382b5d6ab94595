-- Two texts, judged one after the other.
use Rattle.std.specs.Prelude.{◌⊎◌, ℕ, List}
use Rattle.crs_value.specs.declared.values.crs.Crs.{Crs}
use Rattle.crs_value.specs.Spells.{Spells}
use Rattle.crs_c.specs.Answers.{Answer, IsRefusedBy, IsWithoutMemory}

-- a second text: what is said of its CRS; its refusal with code 2; or code 3
unfoldable pub IsSecondAnswer : {A : Type 0} → (Crs → Answer A) → List ℕ → Answer A
IsSecondAnswer Is second old new code =
    ((b : Crs) × Spells second b × Is b old new code)
    ⊎ IsRefusedBy 2 second old new code ⊎ IsWithoutMemory old new code

-- two texts: the refusal of the first with code 1; what is answered of the second, where the first
-- spells a CRS; or code 3
unfoldable pub IsPairAnswer : {A : Type 0} → (Crs → Crs → Answer A) → List ℕ → List ℕ → Answer A
IsPairAnswer Is first second old new code =
    IsRefusedBy 1 first old new code
    ⊎ ((a : Crs) × Spells first a × IsSecondAnswer (Is a) second old new code)
    ⊎ IsWithoutMemory old new code
