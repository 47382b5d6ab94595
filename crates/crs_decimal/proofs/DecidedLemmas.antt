-- Bytes have the number form or not, and are in bounds or not.
use Rattle.std.proofs.Common.{◌≡◌, ℕ, zero, suc, ◌+◌, ◌*◌, ◌/◌, ◌%◌, ◌^◌, ◌<◌, ◌≤◌, ◌⊎◌, inl, inr, List, [], ◌∷◌, length, Option, Some, None, refl, sym, subst, ◌∙◌, arith}
use Rattle.std.proofs.lemmas.Bool.{cases_eq, cases_lt}
use Rattle.std.proofs.Math.Nat.{mul-one}
use Rattle.crs_decimal.specs.Numbers.{Strips, IsMeasured, IsBounded, IsInBounds, number_of, exponent_digits, Exponent, Parts, mantissa, HasForm, Number}
use Rattle.crs_decimal.specs.inner.Split.{parts_of, behind_parts, behind_mantissa, exponent_of, HasExponentDigits, IsCutWhole}
use Rattle.crs_decimal.proofs.SplitLemmas.{spells_parts, parts_only, form_whole}
use Rattle.crs_decimal.proofs.PowerLemmas.{strip_one, scaled_more}

-- a fact, or its refutation
abbrev pub IsDecided : Type 0 → Type 0
IsDecided P = P ⊎ (¬ P)

decides_both : {P Q : Type 0} → IsDecided P → IsDecided Q → IsDecided (P × Q)
decides_both (inl p) (inl q) = inl (p, q)
decides_both (inl p) (inr never) = inr (λ h. never h.1)
decides_both (inr never) q = inr (λ h. never h.0)

decides_as : {P Q : Type 0} → (P → Q) → (Q → P) → IsDecided P → IsDecided Q
decides_as to from (inl p) = inl (to p)
decides_as to from (inr never) = inr (λ q. never (from q))

decides_less : (a b : ℕ) → IsDecided (a < b)
decides_less a b = elim (cases_lt a b) [ inl lt ↦ inl lt | inr ge ↦ inr (λ lt. omega arith) ]

decides_at_most : (a b : ℕ) → IsDecided (a ≤ b)
decides_at_most a b = elim (cases_lt b a) [ inl more ↦ inr (λ le. omega arith) | inr le ↦ inl le ]

decides_none : (bytes : List ℕ) → IsDecided (bytes ≡ [])
decides_none [] = inl refl
decides_none (b ∷ bytes) = inr (λ e. cc)

-- ---- the form

decides_exponent : (e : Option Exponent) → IsDecided (HasExponentDigits e)
decides_exponent None = inl tt
decides_exponent (Some e) = decides_less 0 (length e.digits)

decides_whole : (bytes : List ℕ) → IsDecided (IsCutWhole bytes)
decides_whole bytes =
    decides_as (λ h. record { all = h.0; some = h.1.0; exponent = h.1.1 }) (λ w. (w.all, (w.some, w.exponent)))
    (decides_both (decides_none (behind_parts bytes)) (decides_both (decides_less 0 (length (mantissa (parts_of bytes))))
    (decides_exponent (exponent_of (behind_mantissa bytes)))))

-- ---- the bounds

-- a number that isn't zero is stripped of its closing zeros
strips : (fuel n : ℕ) → n ≤ fuel → 0 < n → (m k : ℕ) × Strips n m k
strips zero n le some = absurd (omega arith)
strips (suc fuel) n le some = elim (cases_eq (n % 10) 0) [
  | inr last ↦ (n, 0, (sym (mul-one n), last))
  | inl closing ↦
      let r = strips fuel (n / 10) (omega arith) (omega arith) in
      let ten : n ≡ n / 10 * 10 = omega arith in
      (r.0, r.1 + 1, (ten ∙ scaled_more r.0 r.1 (n / 10) r.2.0, r.2.1))
]

-- stripped in this way, the number is measured exactly where these digits and zeros are
decides_stripped : (n : Number) (m k : ℕ) → Strips n.digits m k → IsDecided (IsMeasured n)
decides_stripped n m k s =
    decides_as (λ h. (m, k, s, h.0, h.1.0, h.1.1)) back
    (decides_both (decides_less m (10 ^ 38)) (decides_both (decides_at_most n.down (n.up + k + 40)) (decides_at_most (n.up + k) (n.down + 40))))
  where
    same : (h : IsMeasured n) → (h.0 ≡ m) × (h.1 ≡ k)
    same h = strip_one h.0 h.1 m k (sym h.2.0 ∙ s.0) h.2.1 s.1

    back : IsMeasured n → (m < 10 ^ 38) × ((n.down ≤ n.up + k + 40) × (n.up + k ≤ n.down + 40))
    back h = rw (← (same h).0, ← (same h).1) (h.3, (h.4, h.5))

decides_measured : (n : Number) → IsDecided ((n.digits ≡ 0) ⊎ IsMeasured n)
decides_measured n = elim (cases_eq n.digits 0) [
  | inl none ↦ inl (inl none)
  | inr some ↦
      let s = strips n.digits n.digits (omega arith) (omega arith) in
      elim (decides_stripped n s.0 s.1 s.2) [
        | inl holds ↦ inl (inr holds)
        | inr never ↦ inr (λ h. elim h [ inl none ↦ some none | inr holds ↦ never holds ])
      ]
]

decides_bounds : (p : Parts) → IsDecided (IsBounded p)
decides_bounds p =
    decides_as (λ h. record { mantissa_digits = h.0; exponent_digits = h.1.0; measured = h.1.1 }) (λ b. (b.mantissa_digits, (b.exponent_digits, b.measured)))
    (decides_both (decides_at_most (length (mantissa p)) 100) (decides_both (decides_at_most (length (exponent_digits p.exponent)) 3)
    (decides_measured (number_of p))))

-- ---- both

-- bytes are in bounds, or of the number form and not in bounds, or not of that form
pub decided : (bytes : List ℕ) → (IsInBounds bytes ⊎ (HasForm bytes × ¬ (IsInBounds bytes))) ⊎ (¬ (HasForm bytes))
decided bytes = elim (decides_whole bytes) [
  | inr never ↦ inr (λ f. never (form_whole bytes f))
  | inl whole ↦
      let s = spells_parts bytes whole in
      elim (decides_bounds (parts_of bytes)) [
        | inl holds ↦ inl (inl (parts_of bytes, s, holds))
        | inr never ↦ inl (inr ((parts_of bytes, s), λ h. never (subst IsBounded (parts_only bytes h.0 h.1) h.2)))
      ]
]
