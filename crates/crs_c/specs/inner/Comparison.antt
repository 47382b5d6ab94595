-- What is made of the CRSs of two texts, and why nothing is made.
use Rattle.std.specs.Prelude.{◌≡◌, ◌⊎◌, List, ℕ}
use Rattle.crs_text.specs.Refusal.{RefusedAt}
use Rattle.crs_value.specs.declared.values.crs.Crs.{Crs}
use Rattle.crs_value.specs.Spells.{Spells, Refuses}
use Rattle.crs_c.specs.declared.calls.refused.Refused.{Refused}
use Rattle.crs_c.specs.Refusals.{place_and_number}

-- made of the CRS that a text spells
abbrev pub IsMadeBehind : {M : Type 0} → (Crs → M → Type 0) → List ℕ → M → Type 0
IsMadeBehind Like second made = (b : Crs) × Spells second b × Like b made

-- made of the CRSs that two texts spell
abbrev pub IsMadeOfBoth : {M : Type 0} → (Crs → Crs → M → Type 0) → List ℕ → List ℕ → M → Type 0
IsMadeOfBoth Like first second made = (a : Crs) × Spells first a × IsMadeBehind (Like a) second made

-- the text is refused, and the call answers with this code
abbrev pub IsRefusalTold : ℕ → List ℕ → Refused → Refused → ℕ → Type 0
IsRefusalTold refusing text old new code =
    (refusal : RefusedAt) × Refuses text refusal × (code ≡ refusing) × (new ≡ place_and_number refusal)

-- a second text is refused, with code 2; or memory was, with code 3
abbrev pub IsSecondFault : List ℕ → Refused → Refused → ℕ → Type 0
IsSecondFault second old new code = IsRefusalTold 2 second old new code ⊎ ((code ≡ 3) × (new ≡ old))

-- the first text is refused, with code 1; or it spells a CRS and the second is refused; or memory was
abbrev pub IsPairFault : List ℕ → List ℕ → Refused → Refused → ℕ → Type 0
IsPairFault first second old new code =
    IsRefusalTold 1 first old new code
    ⊎ ((a : Crs) × Spells first a × IsSecondFault second old new code)
    ⊎ ((code ≡ 3) × (new ≡ old))
