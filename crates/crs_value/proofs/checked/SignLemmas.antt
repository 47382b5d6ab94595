-- What the first bytes of a number's spelling show of its sign.
use Rattle.std.proofs.Common.{◌≡◌, ◌≢◌, ℕ, zero, suc, ◌+◌, ◌-◌, ◌*◌, ◌^◌, ◌<◌, ◌≤◌, cond, Bool, true, false, inl, inr, ◌⊎◌, ⊎_elim, Option, Some, None, List, [], ◌∷◌, ◌++◌, fold, refl, sym, ◌∙◌, ap, subst, append_assoc, arith, ◌||◌, ◌==◌}
use Rattle.std.specs.List.{find}
use Rattle.std.proofs.Math.Nat.{mul_assoc, pow-suc}
use Rattle.std.proofs.lemmas.Bool.{and_parts}
use Rattle.std.proofs.lemmas.Bool.Decides.{nat_tests}
use Rattle.std.proofs.lemmas.List.Sums.{fold-append}
use Rattle.std.proofs.lemmas.Option.{same_Some}
use Rattle.crs_decimal.specs.inner.Prelude.{number_of, is_minus, digits_value, Sign, unsigned, plus, minus, Exponent, sign_text, fraction_text, fraction_digits, exponent_text, parts_text, mantissa, IsExponent, Value, IsNormal, is_normal, is_power, exact}
use Rattle.crs_text.specs.inner.Prelude.{Item, raw_of}
use Rattle.crs_value.specs.Checks.{IsAboveZero, NotAbove, IsNegative, IsLeast}
use Rattle.crs_value.specs.inner.FirstByte.{is_telling}
use Rattle.crs_value.specs.Reads.{ReadsNumber}

-- ---- a first digit that isn't 0

fold-some : (ds : List ℕ) (n : ℕ) → 0 < n → 0 < fold (λ m d. m * 10 + (d - 48)) n ds
fold-some [] n some = some
fold-some (d ∷ ds) n some = fold-some ds (n * 10 + (d - 48)) (omega (arith, some))

-- digits, and what follows them: the first byte that decides is a digit that isn't 0, or comes
-- after them
telling-in : (ds rest : List ℕ) (b : ℕ) → find is_telling (ds ++ rest) ≡ Some b → 49 ≤ b → ((n : ℕ) → 0 < fold (λ m d. m * 10 + (d - 48)) n ds) ⊎ (find is_telling rest ≡ Some b)
telling-in [] rest b e low = inr e
telling-in (d ∷ ds) rest b e low =
    elim (is_telling d) as (λ t. cond t (Some d) (find is_telling (ds ++ rest)) ≡ Some b →
    ((n : ℕ) → 0 < fold (λ m x. m * 10 + (x - 48)) n (d ∷ ds)) ⊎ (find is_telling rest ≡ Some b)) [
      | true ↦ λ same. inl (λ n. fold-some ds (n * 10 + (d - 48)) (let k : d ≡ b = same_Some d b same in omega (arith, low, k)))
      | false ↦ λ later. ⊎_elim (λ h. inl (λ n. h (n * 10 + (d - 48)))) (λ k. inr k) (telling-in ds rest b later low)
    ] e

letter-high : (l : ℕ) → (l == 69 || l == 101) ≡ true → 58 ≤ l
letter-high l e = grind (arith, nat_tests)

letter-tells : (l : ℕ) → (l == 69 || l == 101) ≡ true → is_telling l ≡ true
letter-tells l e = grind (arith, nat_tests)

telling-letter : (x : Option Exponent) (b : ℕ) → IsExponent x → find is_telling (exponent_text x) ≡ Some b → b ≤ 57 → ⊥
telling-letter None b is e high = cc
telling-letter (Some x) b is e high =
    let at : cond (is_telling x.letter) (Some x.letter) (find is_telling (sign_text x.sign ++ x.digits)) ≡ Some b = e in
    let k : x.letter ≡ b = same_Some x.letter b (rw (letter-tells x.letter is.0) at at) in
    omega (arith, high, k, letter-high x.letter is.0)

telling-fraction : (fraction : Option (List ℕ)) (x : Option Exponent) (n b : ℕ) → IsExponent x → find is_telling (fraction_text fraction ++ exponent_text x) ≡ Some b → 49 ≤ b →
    b ≤ 57 → 0 < fold (λ m d. m * 10 + (d - 48)) n (fraction_digits fraction)
telling-fraction None x n b is e low high = absurd (telling-letter x b is e high)
telling-fraction (Some ds) x n b is e low high = ⊎_elim (λ h. h n) (λ k. absurd (telling-letter x b is k high)) (telling-in ds (exponent_text x) b e low)

telling-mantissa : (whole : List ℕ) (fraction : Option (List ℕ)) (x : Option Exponent) (b : ℕ) → IsExponent x →
    find is_telling (whole ++ (fraction_text fraction ++ exponent_text x)) ≡ Some b → 49 ≤ b → b ≤ 57 → 0 < digits_value (whole ++ fraction_digits fraction)
telling-mantissa whole fraction x b is e low high =
    subst (λ v. 0 < v) (sym (fold-append (λ m d. m * 10 + (d - 48)) 0 whole (fraction_digits fraction)))
    (⊎_elim (λ h. fold-some (fraction_digits fraction) (digits_value whole) (h 0)) (λ k. telling-fraction fraction x (digits_value whole) b is k low high)
    (telling-in whole (fraction_text fraction ++ exponent_text x) b e low))

telling-sign : (s : Sign) (rest : List ℕ) (b : ℕ) → find is_telling (sign_text s ++ rest) ≡ Some b → 49 ≤ b → (is_minus s ≡ false) × (find is_telling rest ≡ Some b)
telling-sign unsigned rest b e low = (refl, e)
telling-sign plus rest b e low = (refl, e)
telling-sign minus rest b e low = let k : 45 ≡ b = same_Some 45 b e in absurd (omega (arith, low, k))

ten-some : (k : ℕ) (m : ℕ) → 0 < m → 0 < m * 10 ^ k
ten-some zero m some = omega (arith, some)
ten-some (suc k) m some =
    let h : 0 < m * 10 ^ k = ten-some k m some in
    let e : m * 10 ^ suc k ≡ m * 10 ^ k * 10 = ap (λ p. m * p) (pow-suc 10 k) ∙ sym (mul_assoc m (10 ^ k) 10) in
    omega (arith, h, e)

pub above-sure : (item : Item) (b : ℕ) → find is_telling (raw_of item) ≡ Some b → (49 ≤ b) × (b ≤ 57) → IsLeast (NotAbove item) None
above-sure item b e within = λ f h. h.1.1.1 (above h.1.0 h.1.1.0)
  where
    above : (v : Value) → ReadsNumber item v → IsAboveZero v
    above v (normal, (p, spells, bounded, same)) = (⊎_elim (λ h. sym h ∙ behind.0) (λ h. absurd (omega (arith, h.0, some))) same.1, size)
      where
        in_turn : parts_text p ≡ sign_text p.sign ++ (p.whole ++ (fraction_text p.fraction ++ exponent_text p.exponent))
        in_turn =
            append_assoc (sign_text p.sign ++ p.whole) (fraction_text p.fraction) (exponent_text p.exponent)
            ∙ append_assoc (sign_text p.sign) p.whole (fraction_text p.fraction ++ exponent_text p.exponent)

        behind : (is_minus p.sign ≡ false) × (find is_telling (p.whole ++ (fraction_text p.fraction ++ exponent_text p.exponent)) ≡ Some b)
        behind =
            telling-sign p.sign (p.whole ++ (fraction_text p.fraction ++ exponent_text p.exponent)) b
            (sym (ap (find is_telling) (spells.0 ∙ in_turn)) ∙ e) within.0

        some : 0 < digits_value (mantissa p)
        some = telling-mantissa p.whole p.fraction p.exponent b spells.1.exponent behind.1 within.0 within.1

        size : v.digits ≢ 0
        size none =
            let l = ten-some ((number_of p).up + (exact v).down) (digits_value (mantissa p)) some in
            let s = same.0 in
            let P : ℕ → Type 0 = λ d. digits_value (mantissa p) * 10 ^ ((number_of p).up + (exact v).down) ≡ d * 10 ^ ((exact v).up + (number_of p).down) in
            let z = subst P none s in
            omega (arith, l, z)
