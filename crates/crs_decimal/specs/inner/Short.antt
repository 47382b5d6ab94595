-- A bridge: what the reader keeps of a short number.
use Rattle.std.specs.Prelude.{◌≡◌, ℕ, ◌^◌, ◌<◌, ◌≤◌, List, length, None}
use Rattle.crs_decimal.specs.declared.short.Short.{Short}
use Rattle.crs_decimal.specs.Numbers.{digits_value, is_minus, Parts, fraction_digits, mantissa}
use Rattle.crs_decimal.specs.inner.Split.{parts_of, IsCutWhole}

-- the reader keeps this of the parts, which have no exponent
pub record IsShortCut (p : Parts) (s : Short) : Type 0 where
  pub negative : s.negative ≡ is_minus p.sign
  pub value : s.value ≡ digits_value (mantissa p)
  pub count : length (mantissa p) ≤ 19
  pub small : s.value < 10 ^ 19
  pub fraction : s.fraction ≡ length (fraction_digits p.fraction)
  pub few : s.fraction ≤ 19
  pub plain : p.exponent ≡ None

-- the bytes spell a number, and this is kept of it
abbrev pub IsReadShort : List ℕ → Short → Type 0
IsReadShort bytes s = IsCutWhole bytes × IsShortCut (parts_of bytes) s
