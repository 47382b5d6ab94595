-- The same CRS has one digest.
use Rattle.std.proofs.Common.{◌≡◌, ◌∙◌, ◌++◌, ◌∷◌, [], ℕ, List, ap, arith, inl, inr, sym}
use Rattle.crs_value.specs.declared.values.crs.Crs.{Crs}
use Rattle.crs_value.specs.declared.values.level.Level.{Level}
use Rattle.crs_value.specs.Spells.{Spells}
use Rattle.crs_same.specs.SameCrs.{SameCrs}
use Rattle.crs_canon.specs.MainTheorem.{MainTheorem}
use Rattle.crs_desk.specs.DigestOutput.{IsDigestOutput, hex_digest}
use Rattle.crs_desk.specs.declared.runs.digest.Spelled.TheVariants.{Canonical}

pub one_digest : (level : Level) → MainTheorem level → (first second v w : List ℕ) (x y : Crs) → Spells first x → Spells second y
    → SameCrs level x y → IsDigestOutput (Canonical level) first v 0 → IsDigestOutput (Canonical level) second w 0 → v ≡ w
unfolding IsDigestOutput
one_digest level main first second v w x y s t same (inl (a, of-first, one)) (inl (b, of-second, other)) =
    let equal : a ≡ b = (main.equal first second a b x y s t of-first of-second).1 same in
    one.line ∙ (ap (λ bytes. hex_digest bytes ++ 10 ∷ []) equal ∙ sym other.line)
one_digest level main first second v w x y s t same (inr (refusal, refuses, one)) other = absurd (omega (arith, one.is_status))
one_digest level main first second v w x y s t same one (inr (refusal, refuses, other)) = absurd (omega (arith, other.is_status))
