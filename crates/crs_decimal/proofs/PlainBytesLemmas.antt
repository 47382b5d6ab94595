-- Bytes that are a plain spelling.
use Rattle.std.proofs.Common.{◌≡◌, ◌≢◌, ◌⊎◌, ℕ, zero, suc, ◌*◌, ◌%◌, ◌^◌, ◌-◌, ◌<◌, List, [], ◌∷◌, ◌++◌, Option, Some, None, length, take, drop, replicate, get_or, ◌==◌, if◌then◌else◌, true, false, take-add, append_assoc, ◌+◌, ◌≤◌, inl, inr, refl, sym, ap, ◌∙◌, arith}
use Rattle.std.specs.List.{prefix_len}
use Rattle.std.proofs.lemmas.Bool.{eqb-false, eqb-true}
use Rattle.std.proofs.lemmas.List.{append-nil, length-append, take-append-drop, take_more}
use Rattle.std.proofs.lemmas.List.Sums.{fold-append}
use Rattle.crs_decimal.specs.Numbers.{digits_value, number_of, Denotes, IsBounded, IsMeasured, AreDigits, is_digit, Sign, unsigned, plus, minus, Exponent, Parts, SpellsNumber, exponent_text, fraction_digits, fraction_text}
use Rattle.crs_decimal.specs.Numbers.{Number, SameNumber, SameSize, EndsTrim, IsFractionNeeded, IsPlain, IsTrim}
use Rattle.crs_decimal.specs.inner.PlainBytes.{IsUnsigned}
use Rattle.crs_decimal.proofs.BoundLemmas.{same_scaled}
use Rattle.crs_decimal.proofs.DecimalLemmas.{above_some}
use Rattle.crs_decimal.proofs.DigitLemmas.{of_parts, spelled}
use Rattle.crs_decimal.proofs.NumberLemmas.{transitive}
use Rattle.crs_decimal.proofs.PowerLemmas.{power_next}
use Rattle.crs_decimal.proofs.SplitLemmas.{digits-append, digits_parts, front_digits, parts_one}

-- nothing, or a period and digits that end in no zero
abbrev IsPlainRest : List ℕ → Type 0
IsPlainRest [] = Unit {0}
IsPlainRest (b ∷ digits) = (b ≡ 46) × AreDigits digits × EndsTrim digits

unsigned-by : (raw whole : List ℕ) (fraction : Option (List ℕ)) → raw ≡ whole ++ fraction_text fraction → AreDigits whole → AreDigits (fraction_digits fraction) →
    IsTrim whole → IsFractionNeeded fraction → IsUnsigned raw
unsigned-by raw whole fraction e dw df trim ends = rw e (record {
  plain = record {
    parts = of_parts whole fraction;
    spells = spelled whole fraction dw df (above_some whole trim);
    sign = inl refl;
    whole = trim;
    fraction = ends;
    exponent = refl;
  };
  sign = refl;
})

joined : (raw whole rest : List ℕ) → raw ≡ whole ++ rest → AreDigits whole → IsTrim whole → IsPlainRest rest → IsUnsigned raw
joined raw whole [] e digits trim h = unsigned-by raw whole None e digits refl trim tt
joined raw whole (b ∷ fraction) e digits trim (period, behind, ends) = unsigned-by raw whole (Some fraction) (rw period at e) digits behind trim ends

-- ---- signs

sign-needed : (rest whole : List ℕ) (fraction : Option (List ℕ)) (exponent : Option Exponent) → exponent ≡ None →
    rest ≡ whole ++ fraction_text fraction ++ exponent_text exponent → rest ≢ 48 ∷ [] → (whole ≢ 48 ∷ []) ⊎ (fraction ≢ None)
sign-needed rest whole fraction exponent none is other = grind arith

pub below-zero : (rest : List ℕ) → 1 < length rest → IsUnsigned rest → IsPlain (45 ∷ rest)
below-zero rest long u =
    let p = u.plain.parts in
    let is : rest ≡ p.whole ++ fraction_text p.fraction ++ exponent_text p.exponent = rw u.sign at u.plain.spells.0 in
    let form = u.plain.spells.1 in record {
      parts = record { sign = minus; whole = p.whole; fraction = p.fraction; exponent = p.exponent };
      spells = (ap (λ (x : List ℕ). 45 ∷ x) is, record { digits = form.digits; some = form.some; exponent = form.exponent });
      sign = inr (refl, sign-needed rest p.whole p.fraction p.exponent u.plain.exponent is (λ e. omega (arith, ap length e, long)));
      whole = u.plain.whole;
      fraction = u.plain.fraction;
      exponent = u.plain.exponent;
    }

unplussed : (rest : List ℕ) (n : Number) (sign : Sign) (whole : List ℕ) (fraction : Option (List ℕ)) (exponent : Option Exponent) →
    let p : Parts = record { sign = sign; whole = whole; fraction = fraction; exponent = exponent } in
    SpellsNumber (43 ∷ rest) p → IsBounded p → SameNumber (number_of p) n → Denotes rest n
unplussed rest n plus whole fraction exponent (is, form) bounded same = (
  record { sign = unsigned; whole = whole; fraction = fraction; exponent = exponent },
  (ap (drop 1) is, record { digits = form.digits; some = form.some; exponent = form.exponent }),
  record {
    mantissa_digits = bounded.mantissa_digits;
    exponent_digits = bounded.exponent_digits;
    measured = bounded.measured;
  },
  same,
)
unplussed rest n minus whole fraction exponent (is, form) bounded same = absurd (omega (arith, ap (λ bytes. get_or bytes 0 0) is))
unplussed rest n unsigned [] None exponent (is, form) bounded same = absurd (omega (arith, form.some))
unplussed rest n unsigned [] (Some ds) exponent (is, form) bounded same = absurd (omega (arith, ap (λ bytes. get_or bytes 0 0) is))
unplussed rest n unsigned (d ∷ ds) fraction exponent (is, form) bounded same =
    let k : 43 ≡ d = cc in
    let h : false ≡ true = rw (← k) at form.digits in
    absurd cc

pub plus-off : (rest : List ℕ) (n : Number) → Denotes (43 ∷ rest) n → Denotes rest n
plus-off rest n (p, spells, bounded, same) = unplussed rest n p.sign p.whole p.fraction p.exponent spells bounded same

-- ---- zeros that a fraction ends in

ten-more : (d m j : ℕ) → d * 10 ≡ m * 10 ^ j → m % 10 ≢ 0 → (i : ℕ) × (j ≡ suc i) × (d ≡ m * 10 ^ i)
ten-more d m zero e other = absurd (other (omega (arith, e)))
ten-more d m (suc i) e other = (i, refl, omega (arith, e, ap (λ p. m * p) (power_next i)))

abbrev with_down : ℕ → ℕ → Number
with_down digits down = record { negative = false; digits = digits; up = 0; down = down }

measured-less : (d down : ℕ) → (d * 10 ≡ 0) ⊎ IsMeasured (with_down (d * 10) (suc down)) → (d ≡ 0) ⊎ IsMeasured (with_down d down)
measured-less d down (inl e) = inl (omega (arith, e))
measured-less d down (inr (m, k, strips, low, left, right)) =
    let (i, is, value) = ten-more d m k strips.0 strips.1 in
    inr (m, i, (value, strips.1), low, omega (arith, left, is), omega (arith, right, is))

-- one zero less
zero-off : (whole ds : List ℕ) (n : Number) → AreDigits whole → AreDigits ds → 0 < length whole →
    Denotes (whole ++ 46 ∷ (ds ++ 48 ∷ [])) n → Denotes (whole ++ 46 ∷ ds) n
zero-off whole ds n dw dd some (p, spells, bounded, same) =
    let q : Parts = of_parts whole (Some (ds ++ 48 ∷ [])) in
    let r : Parts = of_parts whole (Some ds) in
    let is : p ≡ q = parts_one (whole ++ 46 ∷ (ds ++ 48 ∷ [])) p q spells (spelled whole (Some (ds ++ 48 ∷ [])) dw (digits-append ds (48 ∷ []) dd refl) some) in
    let within : IsBounded q = rw is at bounded in
    let digits = digits_value (whole ++ ds) in
    let tenfold : digits_value (whole ++ (ds ++ 48 ∷ [])) ≡ digits * 10 =
    rw (← append_assoc whole ds (48 ∷ [])) (omega (arith, fold-append (λ m d. m * 10 + (d - 48)) 0 (whole ++ ds) (48 ∷ []))) in
    let longer : 0 + length (ds ++ 48 ∷ []) ≡ suc (length ds) = omega (arith, length-append ds (48 ∷ [])) in
    let alone : length ds ≡ 0 + length ds = omega arith in
    let measured = measured-less digits (length ds) (rw (tenfold, longer) at within.measured) in
    let size : SameSize (number_of q) (number_of r) =
    same_scaled (digits_value (whole ++ (ds ++ 48 ∷ []))) digits 1 (0 + (0 + length ds)) (0 + (0 + length (ds ++ 48 ∷ []))) tenfold (omega (arith, longer)) in (
      r,
      spelled whole (Some ds) dw dd some,
      record {
        mantissa_digits =
            omega (arith, within.mantissa_digits, length-append whole ds, length-append whole (ds ++ 48 ∷ []), length-append ds (48 ∷ []));
        exponent_digits = within.exponent_digits;
        measured = rw alone at measured;
      },
      transitive (number_of r) (number_of q) n (sym size, inl refl) (rw is at same),
    )

zeros-off : (k : ℕ) (whole ds : List ℕ) (n : Number) → AreDigits whole → AreDigits ds → 0 < length whole →
    Denotes (whole ++ 46 ∷ (ds ++ replicate k 48)) n → Denotes (whole ++ 46 ∷ ds) n
zeros-off zero whole ds n dw dd some h = rw (append-nil ds) at h
zeros-off (suc k) whole ds n dw dd some h =
    zero-off whole ds n dw dd some (zeros-off k whole (ds ++ 48 ∷ []) n dw (digits-append ds (48 ∷ []) dd refl) some
    (rw (← append_assoc ds (48 ∷ []) (replicate k 48)) at h))

period-off : (whole : List ℕ) (n : Number) → AreDigits whole → 0 < length whole → Denotes (whole ++ 46 ∷ []) n → Denotes whole n
period-off whole n dw some (p, spells, bounded, same) =
    let q : Parts = of_parts whole (Some []) in
    let is : p ≡ q = parts_one (whole ++ 46 ∷ []) p q spells (spelled whole (Some []) dw refl some) in
    let within : IsBounded q = rw is at bounded in
    let own = spelled whole None dw refl some in (
      of_parts whole None,
      (sym (append-nil whole) ∙ own.0, own.1),
      record {
        mantissa_digits = within.mantissa_digits;
        exponent_digits = within.exponent_digits;
        measured = within.measured;
      },
      rw is at same,
    )

cut : (raw fr : List ℕ) (count kept : ℕ) → drop count raw ≡ 46 ∷ fr → take (count + (1 + kept)) raw ≡ take count raw ++ 46 ∷ take kept fr
cut raw fr count kept e =
    let on : 1 + kept ≡ suc kept = omega arith in
    rw (take-add count (1 + kept) raw, on, e)

pub trim-off : (raw fr : List ℕ) (count kept : ℕ) (n : Number) → count ≡ prefix_len is_digit raw → IsTrim (take count raw) →
    drop count raw ≡ 46 ∷ fr → AreDigits fr → fr ≡ take kept fr ++ replicate (length fr - kept) 48 → Denotes raw n →
    Denotes (if kept == 0 then take count raw else take (count + (1 + kept)) raw) n
trim-off raw fr count kept n is trim behind df zeros h =
    let whole = take count raw in
    let dw : AreDigits whole = rw is (front_digits raw) in
    let long = above_some whole trim in
    let digits = (digits_parts (take kept fr) (replicate (length fr - kept) 48) (rw zeros at df)).0 in
    let d : Denotes (whole ++ 46 ∷ take kept fr) n =
    zeros-off (length fr - kept) whole (take kept fr) n dw digits long (rw (← take-append-drop count raw, behind, zeros) at h) in
    elim (kept == 0) as (λ b. (kept == 0) ≡ b → Denotes (if b then whole else take (count + (1 + kept)) raw) n) [
      | true ↦ λ e. period-off whole n dw long (rw (eqb-true kept 0 e) at d)
      | false ↦ λ e. rw (cut raw fr count kept behind) d
    ] refl

-- ---- what is left of a fraction

ends-append : (ds : List ℕ) (d : ℕ) → d ≢ 48 → EndsTrim (ds ++ d ∷ [])
ends-append [] d other = other
ends-append (x ∷ []) d other = other
ends-append (x ∷ y ∷ ds) d other = ends-append (y ∷ ds) d other

pub trim-plain : (raw fr : List ℕ) (count kept : ℕ) → count ≡ prefix_len is_digit raw → IsTrim (take count raw) →
    drop count raw ≡ 46 ∷ fr → AreDigits fr → kept ≤ length fr → (0 < kept → get_or fr (kept - 1) 0 ≢ 48) →
    IsUnsigned (if kept == 0 then take count raw else take (count + (1 + kept)) raw)
trim-plain raw fr count kept is trim behind df le ends =
    let whole = take count raw in
    let dw : AreDigits whole = rw is (front_digits raw) in
    elim (kept == 0) as (λ b. (kept == 0) ≡ b → IsUnsigned (if b then whole else take (count + (1 + kept)) raw)) [
      | true ↦ λ e. joined whole whole [] (sym (append-nil whole)) dw trim tt
      | false ↦ λ e.
          let some : 0 < kept = omega (arith, eqb-false kept 0 e) in
          let on : kept - 1 + 1 ≡ kept = omega (arith, some) in
          let last : take kept fr ≡ take (kept - 1) fr ++ get_or fr (kept - 1) 0 ∷ [] =
          ap (λ k. take k fr) (sym on) ∙ take_more fr (kept - 1) 0 (omega (arith, some, le)) in
          let digits = (digits_parts (take kept fr) (drop kept fr) (rw take-append-drop df)).0 in
          joined (take (count + (1 + kept)) raw) whole (46 ∷ take kept fr) (cut raw fr count kept behind) dw trim
          (refl, digits, rw last (ends-append (take (kept - 1) fr) (get_or fr (kept - 1) 0) (ends some)))
    ] refl

pub whole-plain : (raw : List ℕ) (count : ℕ) → count ≡ prefix_len is_digit raw → IsTrim (take count raw) → drop count raw ≡ [] → IsUnsigned raw
whole-plain raw count is trim none =
    joined raw (take count raw) [] (rw none at (sym (take-append-drop count raw)))
    (rw is (front_digits raw)) trim tt
