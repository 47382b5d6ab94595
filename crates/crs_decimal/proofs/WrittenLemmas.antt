-- What is written is the plain spelling of its value.
use Rattle.std.proofs.Common.{◌≡◌, ◌≢◌, ℕ, suc, ◌+◌, ◌-◌, ◌*◌, ◌%◌, ◌^◌, ◌<◌, ◌≤◌, ◌⊎◌, inl, inr, Bool, true, false, if◌then◌else◌, List, [], ◌∷◌, ◌++◌, length, take, drop, replicate, decimal, Option, Some, None, refl, sym, ap, ◌∙◌, arith, ℤ, pos, negsuc, append_assoc, length-append, add-zero}
use Rattle.std.proofs.lemmas.Bool.{leb-true, ltb-true}
use Rattle.std.proofs.lemmas.Fmt.{length-decimal-le_wide}
use Rattle.std.proofs.lemmas.List.{append-nil, take-append-drop, length-replicate}
use Rattle.std.proofs.Math.Nat.{mul-one}
use Rattle.crs_decimal.specs.Numbers.{digits_value, is_minus, number_of, IsMeasured, Denotes, Sign, unsigned, minus, sign_text, Parts, AreDigits, fraction_digits, fraction_text, SpellsNumber}
use Rattle.crs_decimal.specs.Numbers.{IsTrim, IsSignNeeded, IsFractionNeeded, IsPlain, AppendsPlain, padded, with_period, scaled, plain, Value, zero as zero_value, IsNormal, exact, is_power, up_of, down_of}
use Rattle.crs_decimal.proofs.BoundLemmas.{same_scaled}
use Rattle.crs_decimal.proofs.DecimalLemmas.{above_some, start-append, start_trim, AreDigitsOf, decimal_digits, padded_digits, padded_value, padded_length, whole_trim, fraction_trim, fraction_length}
use Rattle.crs_decimal.proofs.DigitLemmas.{IsSmall, small_measured, value-append, value-zeros, zeros_are_digits, zero_scaled}
use Rattle.crs_decimal.proofs.NumberLemmas.{normal_parts}
use Rattle.crs_decimal.proofs.SplitLemmas.{digits-append}

abbrev sign_for : Bool → Sign
sign_for negative = if negative then minus else unsigned

sign_for-text : (b : Bool) → sign_text (sign_for b) ≡ (if b then 45 ∷ [] else [])
sign_for-text b = grind arith

sign_for-minus : (b : Bool) → is_minus (sign_for b) ≡ b
sign_for-minus b = grind arith

sign_for-needed : (p : Parts) (b : Bool) → p.sign ≡ sign_for b → (b ≡ true → (p.whole ≢ 48 ∷ []) ⊎ (p.fraction ≢ None)) → IsSignNeeded p
sign_for-needed p true e h = inr (e, h refl)
sign_for-needed p false e h = inl e

sign_for-length : (b : Bool) → length {A = ℕ} (if b then 45 ∷ [] else []) ≤ 1
sign_for-length b = grind arith

-- the parts of a spelling that has no exponent
abbrev signed : Bool → List ℕ → Option (List ℕ) → Parts
signed b w f = record { sign = sign_for b; whole = w; fraction = f; exponent = None }

-- all that is asked of the spelling of a value
pub record IsWritten (v : Value) (bs : List ℕ) : Type 0 where
  pub is_plain : IsPlain bs
  pub denotes : Denotes bs (exact v)
  pub short : length bs ≤ 79

written_by : (v : Value) (w : List ℕ) (f : Option (List ℕ)) (n : ℕ) → AreDigits (w ++ fraction_digits f) → IsTrim w → IsFractionNeeded f →
    (v.negative ≡ true → (w ≢ 48 ∷ []) ⊎ (f ≢ None)) → digits_value (w ++ fraction_digits f) ≡ v.digits * 10 ^ n →
    up_of v.power + length (fraction_digits f) ≡ n + down_of v.power →
    ((number_of (signed v.negative w f)).digits ≡ 0) ⊎ IsMeasured (number_of (signed v.negative w f)) → length (w ++ fraction_digits f) ≤ 100 →
    length (w ++ fraction_text f) ≤ 78 → IsWritten v ((if v.negative then 45 ∷ [] else []) ++ (w ++ fraction_text f))
written_by v w f n digits trim ends needed value places measured few short =
    let p = signed v.negative w f in
    let spells : SpellsNumber ((if v.negative then 45 ∷ [] else []) ++ (w ++ fraction_text f)) p = (
      rw (sign_for-text v.negative) (simp (append-nil, append_assoc)),
      record { digits = digits; some = omega (arith, length-append w (fraction_digits f), above_some w trim); exponent = tt },
    ) in
    let same = same_scaled (digits_value (w ++ fraction_digits f)) v.digits n (0 + down_of v.power) (up_of v.power + (0 + length (fraction_digits f))) value
    (omega arith) in
    record {
      is_plain = record {
        parts = p;
        spells = spells;
        sign = sign_for-needed p v.negative refl needed;
        whole = trim;
        fraction = ends;
        exponent = refl;
      };
      denotes = (p, spells, record { mantissa_digits = few; exponent_digits = omega arith; measured = measured }, (same, inl (sign_for-minus v.negative)));
      short = omega (arith, length-append (if v.negative then 45 ∷ [] else []) (w ++ fraction_text f), sign_for-length v.negative);
    }

positive : (n : ℕ) → n % 10 ≢ 0 → 0 < n
positive n h = omega arith

-- ---- whole numbers

whole_value : (n d : ℕ) (ds : List ℕ) → AreDigitsOf d ds → digits_value ((ds ++ replicate n 48) ++ []) ≡ d * 10 ^ n
whole_value n d ds h =
    rw (append-nil (ds ++ replicate n 48), value-append ds (replicate n 48), length-replicate {A = ℕ} n 48, h.value, value-zeros n, add-zero (d * 10 ^ n))

whole_trimmed : (v : Value) (n : ℕ) (ds : List ℕ) → v.power ≡ pos n → AreDigitsOf v.digits ds → (v.digits % 10 ≢ 0) ⊎ (v ≡ zero_value) → IsTrim (ds ++ replicate n 48)
whole_trimmed v n ds e h (inl last) = start_trim (ds ++ replicate n 48) (start-append ds (replicate n 48) (h.start (positive v.digits last)))
whole_trimmed v n ds e h (inr z) =
    let none : n ≡ 0 = omega (arith, ap up_of (sym e ∙ ap (λ x. x.power) z)) in
    rw (none, append-nil) h.trim

whole_above : (v : Value) (n : ℕ) (ds : List ℕ) → AreDigitsOf v.digits ds → (v.digits % 10 ≢ 0) ⊎ (v ≡ zero_value) → v.negative ≡ true → ds ++ replicate n 48 ≢ 48 ∷ []
whole_above v n ds h last negative e = grind (arith, start-append ds (replicate n 48), h.start)

whole_measured : (v : Value) (n k : ℕ) → k ≡ v.digits * 10 ^ n → n ≤ 40 → v.digits < 10 ^ 38 → (v.digits % 10 ≢ 0) ⊎ (v ≡ zero_value) → IsSmall k
whole_measured v n k e l small last = grind (arith, zero_scaled v.digits n)

whole_written : (v : Value) (n : ℕ) → v.power ≡ pos n → n ≤ 40 → v.digits < 10 ^ 38 → (v.digits % 10 ≢ 0) ⊎ (v ≡ zero_value) → IsWritten v ((if v.negative then 45 ∷ [] else []) ++ (decimal v.digits ++ replicate n 48))
whole_written v n e l small last =
    let ds = decimal v.digits in
    let w : List ℕ = ds ++ replicate n 48 in
    let h = decimal_digits v.digits (omega arith) in
    let short = length-decimal-le_wide 38 v.digits (omega arith) small (omega arith) in
    let size : length (w ++ []) ≡ length ds + n = rw (append-nil w, length-append ds (replicate n 48), length-replicate {A = ℕ} n 48) in
    let number = whole_value n v.digits ds h in
    rw append-nil at (written_by v w None n (rw append-nil (digits-append ds (replicate n 48) h.digits (zeros_are_digits n))) (whole_trimmed v n ds e h last) tt
    (λ s. inl (whole_above v n ds h last s)) number (omega (arith, ap up_of e, ap down_of e))
    (small_measured (number_of (signed v.negative w None)) refl (omega arith) (whole_measured v n (digits_value (w ++ [])) number l small last))
    (omega arith) (omega arith))

-- ---- fractions

period_written : (v : Value) (n : ℕ) → v.power ≡ negsuc n → n < 40 → v.digits < 10 ^ 38 → v.digits % 10 ≢ 0 → IsWritten v ((if v.negative then 45 ∷ [] else []) ++ with_period (suc n) (padded (suc (suc n)) (decimal v.digits)))
period_written v n e l small last =
    let ds = decimal v.digits in
    let k = suc n in
    let q = padded (suc k) ds in
    let w = take (length q - k) q in
    let f = drop (length q - k) q in
    let h = decimal_digits v.digits (omega arith) in
    let join : w ++ f ≡ q = take-append-drop (length q - k) q in
    let short = length-decimal-le_wide 38 v.digits (omega arith) small (omega arith) in
    let size : length q ≤ 41 = elim (padded_length (suc k) ds) [ inl g ↦ omega (arith, g) | inr g ↦ omega (arith, ap length g.1) ] in
    let number : digits_value (w ++ f) ≡ v.digits * 10 ^ 0 = ap digits_value join ∙ padded_value (suc k) v.digits ds h ∙ sym (mul-one v.digits) in
    let up : up_of v.power ≡ 0 = ap up_of e in
    let down : down_of v.power ≡ k = ap down_of e in
    let places = fraction_length k ds in
    written_by v w (Some f) 0 (rw join (padded_digits (suc k) v.digits ds h)) (whole_trim k v.digits ds h (positive v.digits last))
    (fraction_trim k v.digits ds h last (omega arith)) (λ s. inr (λ none. cc)) number (omega arith)
    (inr (v.digits, 0, (number, last), small, omega arith, omega arith)) (omega (arith, ap length join))
    (omega (arith, length-append w (46 ∷ f), length-append w f, ap length join))

written_at : (v : Value) (x : ℤ) → v.power ≡ x → is_power x ≡ true → v.digits < 10 ^ 38 → (v.digits % 10 ≢ 0) ⊎ (v ≡ zero_value) → IsWritten v ((if v.negative then 45 ∷ [] else []) ++ scaled (decimal v.digits) x)
written_at v (pos n) e l small last = whole_written v n e (leb-true n 40 l) small last
written_at v (negsuc n) e l small (inl last) = period_written v n e (ltb-true n 40 l) small last
written_at v (negsuc n) e l small (inr z) = absurd (omega (arith, ap down_of (sym e ∙ ap (λ x. x.power) z)))

pub written : (v : Value) → IsNormal v → IsWritten v (plain v)
written v h = let p = normal_parts v h in written_at v v.power refl p.1 p.0 p.2

pub appends-plain : (v : Value) → IsNormal v → (before after : List ℕ) → after ≡ before ++ plain v →
    AppendsPlain v before after
appends-plain v h before after e =
    let w = written v h in
    record { spelling = plain v; appended = e; is_plain = w.is_plain; denotes = w.denotes }
