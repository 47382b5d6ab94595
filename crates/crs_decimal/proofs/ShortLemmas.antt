-- Short numbers: their parts, and the number that they mean.
use Rattle.std.proofs.Common.{◌≡◌, ◌≢◌, ℕ, ◌+◌, ◌-◌, ◌*◌, ◌/◌, ◌%◌, ◌^◌, ◌<◌, ◌≤◌, false, List, [], ◌∷◌, ◌++◌, length, None, Some, fold, sym, ap, subst, ◌∙◌, arith}
use Rattle.std.proofs.lemmas.List.{length-append}
use Rattle.std.proofs.lemmas.List.Sums.{fold-append}
use Rattle.crs_decimal.specs.declared.short.Short.{Short}
use Rattle.crs_decimal.specs.declared.mantissa.Mantissa.{Mantissa}
use Rattle.crs_decimal.specs.Numbers.{digits_value, is_minus, IsBounded, number_of, power_up, power_down, Parts, fraction_digits, mantissa, SameNumber, Value, IsNormal, exact}
use Rattle.crs_decimal.specs.inner.Cut.{IsPowerBetween}
use Rattle.crs_decimal.specs.inner.Short.{IsReadShort, IsShortCut}
use Rattle.crs_decimal.specs.inner.Split.{leading_digits, behind_digits, sign_of, behind_sign, fraction_of, behind_fraction, exponent_of, behind_exponent, behind_whole, behind_mantissa, parts_of, HasExponentDigits}
use Rattle.crs_decimal.proofs.BoundLemmas.{near_bounded, near_same}
use Rattle.crs_decimal.proofs.PowerLemmas.{power_grows, power_more, scaled_grows}

-- ---- parts

module _ (bytes : List ℕ) (s : Short) (negative : s.negative ≡ is_minus (sign_of bytes)) (small : s.value < 10 ^ 19) where
  -- digits, a period, digits
  pub short_fraction : (rest : List ℕ) → behind_whole bytes ≡ 46 ∷ rest → behind_digits rest ≡ [] → s.value ≡ digits_value (leading_digits (behind_sign bytes) ++ leading_digits rest) → 0 < length (leading_digits (behind_sign bytes)) + length (leading_digits rest) → length (leading_digits (behind_sign bytes)) + length (leading_digits rest) ≤ 19
      → s.fraction ≡ length (leading_digits rest) → IsReadShort bytes s
  short_fraction rest period end value some few count =
      let w = leading_digits (behind_sign bytes) in
      let behind_is : behind_mantissa bytes ≡ [] = ap behind_fraction period ∙ end in
      let f : fraction_of (behind_whole bytes) ≡ Some (leading_digits rest) = ap fraction_of period in
      let e : exponent_of (behind_mantissa bytes) ≡ None = ap exponent_of behind_is in
      let m : mantissa (parts_of bytes) ≡ w ++ leading_digits rest = ap (λ z. w ++ fraction_digits z) f in
      let l : length (mantissa (parts_of bytes)) ≡ length w + length (leading_digits rest) = ap length m ∙ length-append w (leading_digits rest) in (
        record {
          all = ap behind_exponent behind_is;
          some = omega (arith, l, some);
          exponent = subst HasExponentDigits (sym e) tt;
        },
        record {
          negative = negative;
          value = value ∙ ap digits_value (sym m);
          count = omega (arith, l, few);
          small = small;
          fraction = count ∙ ap (λ z. length (fraction_digits z)) (sym f);
          few = omega (arith, count, few);
          plain = e;
        },
      )

pub value_joined : (xs ys : List ℕ) → fold (λ n d. n * 10 + (d - 48)) (digits_value xs) ys ≡ digits_value (xs ++ ys)
value_joined xs ys = sym (fold-append (λ n d. n * 10 + (d - 48)) 0 xs ys)

-- a number of some digits is below each power of ten that is no less
pub small_at : (value count most : ℕ) → value < 10 ^ count → count ≤ most → value < 10 ^ most
small_at value count most h few = omega (arith, h, power_grows count most few)

-- one more digit
pub small_more : (value count d : ℕ) → value < 10 ^ count → d < 10 → value * 10 + d < 10 ^ (count + 1)
small_more value count d small digit = omega (arith, small, power_more count)

-- ---- the number

-- a closing zero
pub zero_off : (digits zeros : ℕ) → digits % 10 ≡ 0 → digits * 10 ^ zeros ≡ digits / 10 * 10 ^ (zeros + 1)
zero_off digits zeros e =
    let whole : digits ≡ digits / 10 * 10 = omega arith in
    rw power_more (omega (arith, ap (λ x. x * 10 ^ zeros) whole))

pub zeros_few : (value digits zeros : ℕ) → value < 10 ^ 19 → value ≡ digits * 10 ^ zeros → digits % 10 ≢ 0 → zeros ≤ 19
zeros_few value digits zeros small e last = grind (arith, scaled_grows digits 19 zeros)

pub short_number : (p : Parts) (s : Short) → IsShortCut p s → (v : Value) (digits zeros : ℕ) → IsNormal v → s.value ≡ digits * 10 ^ zeros → digits % 10 ≢ 0 →
    digits < 10 ^ 38 → v.digits ≡ digits → v.negative ≡ s.negative → IsPowerBetween zeros s.fraction v.power →
    IsNormal v × IsBounded p × SameNumber (number_of p) (exact v)
short_number p s cut v digits zeros normal e last limit same sign between =
    let m : Mantissa = record { digits = digits; zeros = zeros; is_long = false } in
    let n : digits_value (mantissa p) ≡ digits * 10 ^ zeros = sym cut.value ∙ e in
    let up : power_up p.exponent + zeros ≡ zeros = omega (arith, ap power_up cut.plain) in
    let down : power_down p.exponent + length (fraction_digits p.fraction) ≡ s.fraction = omega (arith, ap power_down cut.plain, cut.fraction) in
    let near : IsPowerBetween (power_up p.exponent + zeros) (power_down p.exponent + length (fraction_digits p.fraction)) v.power = rw (up, down) between in
    let few : length (mantissa p) ≤ 100 = omega (arith, cut.count) in
    (normal, near_bounded p m v.power (n, last) limit few (rw cut.plain (omega arith)) near, near_same p m v n same (sign ∙ cut.negative) near)
