-- A bridge: bytes that are a number's plain spelling, by their parts.
use Rattle.std.specs.Prelude.{◌≡◌, ℕ, List}
use Rattle.crs_decimal.specs.Numbers.{IsPlain, unsigned}

-- a plain spelling that has no sign
pub record IsUnsigned (bytes : List ℕ) : Type 0 where
  pub plain : IsPlain bytes
  pub sign : plain.parts.sign ≡ unsigned
