-- The number that digits spell, and what the mantissa that is kept shows of those that were read.
use Rattle.std.proofs.Common.{◌≡◌, ◌≢◌, ℕ, ◌+◌, ◌-◌, ◌*◌, ◌%◌, ◌^◌, ◌<◌, ◌≤◌, ◌⊎◌, inl, inr, Bool, true, false, List, [], ◌∷◌, fold, refl, sym, ap, ◌∙◌, arith, zero, suc, nat_le, ◌++◌, length, replicate, Option, None, subst, zero-add}
use Rattle.std.specs.List.{list_all}
use Rattle.std.proofs.lemmas.Bool.{and_parts, cases_eq, leb-true}
use Rattle.std.proofs.lemmas.Nat.{mod-mul-add, same_from_place}
use Rattle.std.proofs.Math.Nat.{mul-one, zero-mul, mul-le-mul_right}
use Rattle.std.proofs.lemmas.Bool.Decides.{nat_tests}
use Rattle.crs_decimal.specs.Numbers.{is_digit, AreDigits, digits_value, Strips, unsigned, Parts, SpellsNumber, fraction_digits, fraction_text, mantissa, number_of, power_up, power_down, IsMeasured, IsInBounds, Number}
use Rattle.crs_decimal.specs.inner.Mantissa.{no_digits, with_digit, with_digits}
use Rattle.crs_decimal.specs.declared.mantissa.Mantissa.{Mantissa}
use Rattle.crs_decimal.proofs.PowerLemmas.{scaled_more, scaled_grows, power_next, power_grows}
use Rattle.std.proofs.lemmas.List.{append-nil, length-append}
use Rattle.std.proofs.lemmas.List.Sums.{fold-append}
use Rattle.crs_decimal.proofs.SplitLemmas.{digits-append}

-- n has more than 38 digits from the first to the last that isn't zero
abbrev pub IsLong : ℕ → Type 0
IsLong n = (m k : ℕ) × Strips n m k × (10 ^ 38 ≤ m)

abbrev pub IsStripped : ℕ → ℕ → Type 0
IsStripped digits count = (digits % 10 ≢ 0) ⊎ ((digits ≡ 0) × (count ≡ 0))

-- the mantissa shows n: stripped of its closing zeros, or as too long
abbrev pub Shows : Bool → ℕ → ℕ → ℕ → Type 0
Shows true n digits count = IsLong n × (digits ≢ 0)
Shows false n digits count = (n ≡ digits * 10 ^ count) × (digits < 10 ^ 38) × IsStripped digits count

abbrev pub IsShown : ℕ → Mantissa → Type 0
IsShown n m = Shows m.is_long n m.digits m.zeros

pub last_digit : (n c : ℕ) → c < 10 → c ≢ 0 → (n * 10 + c) % 10 ≢ 0
last_digit n c h ne e = ne (sym (mod-mul-add n 10 c h) ∙ e)

pub long_least : (n : ℕ) → IsLong n → 10 ^ 38 ≤ n
long_least n (m, k, s, l) = omega (arith, s.0, scaled_grows m 0 k (omega arith))

long_more : (n c : ℕ) → c < 10 → IsLong n → IsLong (n * 10 + c)
long_more n c h long = elim (cases_eq c 0) [
  | inl e ↦ (long.0, long.1 + 1, (omega (arith, scaled_more long.0 long.1 n long.2.0), long.2.1), long.3)
  | inr e ↦ (n * 10 + c, 0, (sym (mul-one (n * 10 + c)), last_digit n c h e), omega (arith, long_least n long))
]

-- a number of more than 38 digits whose last isn't a zero
long_at : (n c : ℕ) → c < 10 → c ≢ 0 → 10 ^ 38 ≤ n * 10 → IsLong (n * 10 + c)
long_at n c h ne l = (n * 10 + c, 0, (sym (mul-one (n * 10 + c)), last_digit n c h ne), omega arith)

pub zero_scaled : (d k : ℕ) → d ≡ 0 → d * 10 ^ k ≡ 0
zero_scaled d k e = ap (λ x. x * 10 ^ k) e ∙ zero-mul (10 ^ k)

shown_more : (n c : ℕ) (m : Mantissa) → c < 10 → IsShown n m → IsShown (n * 10 + c) (with_digit m c)
shown_more n c m h s =
    grind (
      arith,
      nat_tests,
      long_more n c h,
      long_at n c h,
      last_digit n c h,
      scaled_more m.digits m.zeros n,
      zero_scaled m.digits m.zeros,
      zero_scaled m.digits (m.zeros + 1),
    )

digit_below : (d : ℕ) → is_digit d ≡ true → d - 48 < 10
digit_below d h = grind (arith, nat_tests)

shown_behind : (ds : List ℕ) (n : ℕ) (m : Mantissa) → AreDigits ds → IsShown n m → IsShown (fold (λ k d. k * 10 + (d - 48)) n ds) (with_digits m ds)
shown_behind [] n m h s = s
shown_behind (d ∷ ds) n m h s =
    let p = and_parts (is_digit d) (list_all is_digit ds) h in
    shown_behind ds (n * 10 + (d - 48)) (with_digit m (d - 48)) p.1 (shown_more n (d - 48) m (digit_below d p.0) s)

pub shown : (ds : List ℕ) → AreDigits ds → IsShown (digits_value ds) (with_digits no_digits ds)
shown ds h = shown_behind ds 0 no_digits h (refl, omega arith, inr (refl, refl))

-- ---- the number that digits spell

-- the number of n's digits with these after them
abbrev pub value_after : ℕ → List ℕ → ℕ
value_after n ds = fold (λ m d. m * 10 + (d - 48)) n ds

value_behind : (ds : List ℕ) (n : ℕ) → value_after n ds ≡ n * 10 ^ length ds + digits_value ds
value_behind [] n = omega arith
value_behind (d ∷ ds) n = rw power_next (omega (arith, value_behind ds (n * 10 + (d - 48)), value_behind ds (0 + (d - 48))))

pub value-append : (xs ys : List ℕ) → digits_value (xs ++ ys) ≡ digits_value xs * 10 ^ length ys + digits_value ys
value-append xs ys = fold-append (λ n d. n * 10 + (d - 48)) 0 xs ys ∙ value_behind ys (digits_value xs)

pub value-cons : (d : ℕ) (ds : List ℕ) → digits_value (d ∷ ds) ≡ (d - 48) * 10 ^ length ds + digits_value ds
value-cons d ds = value_behind ds (0 + (d - 48)) ∙ ap (λ c. c * 10 ^ length ds + digits_value ds) (zero-add (d - 48))

pub digit_range : (d : ℕ) → is_digit d ≡ true → (48 ≤ d) × (d ≤ 57)
digit_range d h = let p = and_parts (nat_le 48 d) (nat_le d 57) h in (leb-true 48 d p.0, leb-true d 57 p.1)

pub value-below : (ds : List ℕ) → AreDigits ds → digits_value ds < 10 ^ length ds
value-below [] h = omega arith
value-below (d ∷ ds) h =
    let p = and_parts (is_digit d) (list_all is_digit ds) h in
    let r = digit_range d p.0 in
    let below = value-below ds p.1 in
    let most : (d - 48) * 10 ^ length ds ≤ 9 * 10 ^ length ds = mul-le-mul_right (10 ^ length ds) (omega arith) in
    omega (arith, value-cons d ds, power_next (length ds))

pub same_digits : (xs ys : List ℕ) → length xs ≡ length ys → AreDigits xs → AreDigits ys → digits_value xs ≡ digits_value ys → xs ≡ ys
same_digits [] [] l g h e = refl
same_digits [] (y ∷ ys) l g h e = absurd (omega arith)
same_digits (x ∷ xs) [] l g h e = absurd (omega arith)
same_digits (x ∷ xs) (y ∷ ys) l g h e =
    let p = and_parts (is_digit x) (list_all is_digit xs) g in
    let q = and_parts (is_digit y) (list_all is_digit ys) h in
    let same : length xs ≡ length ys = omega arith in
    let r = same_from_place (x - 48) (digits_value xs) (y - 48) (digits_value ys) (10 ^ length ys) (rw same at (value-below xs p.1)) (value-below ys q.1)
    (sym (rw same at (value-cons x xs)) ∙ e ∙ value-cons y ys) in
    let low = digit_range x p.0 in
    let high = digit_range y q.0 in
    let heads : x ≡ y = omega (arith, r.0) in
    rw (heads, same_digits xs ys same p.1 q.1 r.1)

pub value-zeros : (n : ℕ) → digits_value (replicate n 48) ≡ 0
value-zeros zero = refl
value-zeros (suc n) = value-cons 48 (replicate n 48) ∙ omega (arith, value-zeros n)

pub zeros_are_digits : (n : ℕ) → AreDigits (replicate n 48)
zeros_are_digits zero = refl
zeros_are_digits (suc n) = zeros_are_digits n

-- ---- a number without an exponent and with few digits is in bounds

abbrev pub IsSmall : ℕ → Type 0
IsSmall n = (n ≡ 0) ⊎ ((m k : ℕ) × Strips n m k × (m < 10 ^ 38) × (k ≤ 40))

pub small_measured : (n : Number) → n.up ≡ 0 → n.down ≤ 40 → IsSmall n.digits → (n.digits ≡ 0) ⊎ IsMeasured n
small_measured n up down (inl e) = inl e
small_measured n up down (inr (m, k, t, u, v)) = inr (m, k, t, u, omega arith, omega arith)

power_small : (d z n : ℕ) → n ≡ d * 10 ^ z → 0 < d → n < 10 ^ 38 → z ≤ 40
power_small d z n e some small = grind (arith, power_grows 40 z, mul-le-mul_right (10 ^ z) some)

few_measured : (b : Bool) (n d z : ℕ) → Shows b n d z → n < 10 ^ 38 → IsSmall n
few_measured true n d z s small = let l = long_least n s.0 in absurd (omega arith)
few_measured false n d z s small =
    elim s.2 [
      | inl e ↦ inr (d, z, (s.0, e), s.1, power_small d z n s.0 (omega arith) small)
      | inr e ↦ inl (s.0 ∙ zero_scaled d z e.0)
    ]

pub few_in_bounds : (bytes : List ℕ) (p : Parts) → SpellsNumber bytes p → p.exponent ≡ None → length (mantissa p) ≤ 38 → IsInBounds bytes
few_in_bounds bytes p spells none few =
    let ds = mantissa p in
    let m = with_digits no_digits ds in
    let below = value-below ds spells.1.digits in
    let most = power_grows (length ds) 38 few in
    let small = few_measured m.is_long (digits_value ds) m.digits m.zeros (shown ds spells.1.digits) (omega arith) in
    let places = length-append p.whole (fraction_digits p.fraction) in (
      p,
      spells,
      record {
        mantissa_digits = omega arith;
        exponent_digits = rw none (omega arith);
        measured = small_measured (number_of p) (ap power_up none) (omega (arith, ap power_down none)) small;
      },
    )

-- the parts of a spelling with neither sign nor exponent
abbrev pub of_parts : List ℕ → Option (List ℕ) → Parts
of_parts whole fraction = record { sign = unsigned; whole = whole; fraction = fraction; exponent = None }

pub spelled : (whole : List ℕ) (fraction : Option (List ℕ)) → AreDigits whole → AreDigits (fraction_digits fraction) → 0 < length whole →
    SpellsNumber (whole ++ fraction_text fraction) (of_parts whole fraction)
spelled whole fraction dw df some = (
  sym (append-nil (whole ++ fraction_text fraction)),
  record {
    digits = digits-append whole (fraction_digits fraction) dw df;
    some = omega (arith, some, length-append whole (fraction_digits fraction));
    exponent = tt;
  },
)

pub digits_in_bounds : (ds : List ℕ) → AreDigits ds → 0 < length ds → length ds ≤ 18 → IsInBounds ds
digits_in_bounds ds h some few =
    let own : SpellsNumber ds (of_parts ds None) = subst (λ bytes. SpellsNumber bytes (of_parts ds None)) (append-nil ds) (spelled ds None h refl some) in
    few_in_bounds ds (of_parts ds None) own refl (omega (arith, few, ap length (append-nil ds)))
