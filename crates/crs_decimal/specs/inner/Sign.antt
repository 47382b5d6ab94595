-- How a decimal keeps its sign: 1 below zero, 0 elsewhere.
use Rattle.std.proofs.Common.{arith}
use Rattle.std.specs.Prelude.{◌≡◌, ℕ, zero, suc, ◌<◌, ◌==◌, refl}
use Rattle.std.specs.Int.{from_bool}

-- the sign is got back from whether the number is negative
pub sign_back : (sign : ℕ) → sign < 2 → from_bool (sign == 1) ≡ sign
sign_back zero h = refl
sign_back (suc zero) h = refl
sign_back (suc (suc n)) h = absurd (omega arith)
