-- Bytes that are a number in bounds denote a normal value.
use Rattle.std.proofs.Common.{◌≡◌, ◌≢◌, ℕ, ◌+◌, ◌-◌, ◌%◌, ◌^◌, ◌<◌, ◌≤◌, ◌⊎◌, inl, inr, false, IsTrue, List, length, refl, arith, ℤ, pos, negsuc}
use Rattle.std.proofs.lemmas.Bool.{cases_lt, le-leb, lt-ltb, ne_eqb}
use Rattle.crs_decimal.specs.Numbers.{is_minus, IsMeasured, IsInBounds, Denotes, number_of, power_up, power_down, Parts, fraction_digits, SameNumber, Value, exact, zero, is_power, IsNormal}
use Rattle.crs_decimal.specs.inner.Cut.{IsPowerBetween}
use Rattle.crs_decimal.specs.declared.mantissa.Mantissa.{Mantissa}
use Rattle.crs_decimal.proofs.BoundLemmas.{near_same, zero_same}

power-between : (up down : ℕ) → down ≤ up + 40 → up ≤ down + 40 → (power : ℤ) × IsPowerBetween up down power
power-between up down a b = elim (cases_lt up down) [
  | inl less ↦ (negsuc (down - up - 1), (lt-ltb (down - up - 1) 40 (omega arith), omega arith))
  | inr more ↦ (pos (up - down), (le-leb (up - down) 40 (omega arith), omega arith))
]

normal-value : (v : Value) → v.digits < 10 ^ 38 → IsTrue (is_power v.power) → v.digits % 10 ≢ 0 → IsNormal v
normal-value v short near last = rw (lt-ltb v.digits (10 ^ 38) short, near, ne_eqb (v.digits % 10) 0 last)

abbrev Valued : Parts → Type 0
Valued p = (v : Value) × (IsNormal v × SameNumber (number_of p) (exact v))

valued : (p : Parts) → ((number_of p).digits ≡ 0) ⊎ IsMeasured (number_of p) → Valued p
valued p (inl none) = (zero, (refl, zero_same p none))
valued p (inr (m, k, strips, short, low, high)) =
    let near = power-between (power_up p.exponent + k) (power_down p.exponent + length (fraction_digits p.fraction)) low high in
    let v : Value = record { negative = is_minus p.sign; digits = m; power = near.0 } in
    let kept : Mantissa = record { digits = m; zeros = k; is_long = false } in
    (v, (normal-value v short near.1.0 strips.1, near_same p kept v strips.0 refl refl near.1))

pub bounded-denotes : (bytes : List ℕ) → IsInBounds bytes → (v : Value) × (IsNormal v × Denotes bytes (exact v))
bounded-denotes bytes (p, spells, bounded) =
    let h = valued p bounded.measured in (h.0, (h.1.0, (p, spells, bounded, h.1.1)))
