-- What crsdesk_same answers.
use Rattle.std.specs.Prelude.{◌≡◌, ◌↔◌, ℕ, List, Bool, IsTrue}
use Rattle.std.specs.Int.{from_bool}
use Rattle.crs_value.specs.declared.values.crs.Crs.{Crs}
use Rattle.crs_value.specs.declared.values.level.Level.{Level}
use Rattle.crs_same.specs.SameCrs.{SameCrs}
use Rattle.crs_c.specs.Answers.{Answer, IsAtLevel}
use Rattle.crs_c.specs.Pairs.{IsPairAnswer}

-- 1 or 0 is answered with code 0, as the CRSs are the same or not
abbrev pub TellsSame : Level → Crs → Crs → Answer ℕ
TellsSame level a b old new code =
    (found : Bool) × (IsTrue found ↔ SameCrs level a b) × (code ≡ 0)
    × (new ≡ record old { answer = from_bool found })

-- whether the CRSs of two texts are the same at the level of this number, where there is such a level
abbrev pub IsSameAnswer : ℕ → List ℕ → List ℕ → Answer ℕ
IsSameAnswer level first second = IsAtLevel level (λ l. IsPairAnswer (TellsSame l) first second)
