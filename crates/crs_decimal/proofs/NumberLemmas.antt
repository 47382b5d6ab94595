-- Being the same number is an equivalence, and each number has one normal form.
use Rattle.std.proofs.Common.{◌≡◌, ◌≢◌, ℕ, suc, ◌+◌, ◌*◌, ◌%◌, ◌^◌, ◌<◌, ◌⊎◌, ◌↔◌, inl, true, false, IsTrue, List, refl, sym, ap, subst, ◌∙◌, arith, ℤ, pos, negsuc, ◌<ℤ◌}
use Rattle.std.proofs.lemmas.Bool.Decides.{nat_tests}
use Rattle.std.proofs.lemmas.Int.{ints}
use Rattle.std.proofs.lemmas.Nat.{pow-add}
use Rattle.std.proofs.Math.Nat.{mul-one, zero-add, le_of_mul-le-mul_right, le_antisymm}
use Rattle.crs_decimal.specs.Numbers.{Denotes, number_of, Number, SameSize, SameNumber, whole_number, Value, zero, is_power, is_zero_power, IsNormal, exact, up_of, down_of}
use Rattle.crs_decimal.proofs.DigitLemmas.{zero_scaled}
use Rattle.crs_decimal.proofs.PowerLemmas.{strip_one, power_positive, last_zero}
use Rattle.crs_decimal.proofs.SplitLemmas.{parts_one}

pub reflexive : (a : Number) → SameNumber a a
reflexive a = (refl, inl refl)

pub symmetric : (a b : Number) → SameNumber a b → SameNumber b a
symmetric a b h = (sym h.0, grind arith)

pub cancelled : (a b k : ℕ) → a * 10 ^ k ≡ b * 10 ^ k → a ≡ b
cancelled a b k h =
    le_antisymm (le_of_mul-le-mul_right (omega (arith, h)) (power_positive k)) (le_of_mul-le-mul_right (omega (arith, h)) (power_positive k))

pub lowered : (x y i j k m n : ℕ) → x * 10 ^ m ≡ y * 10 ^ n → m ≡ i + k → n ≡ j + k → x * 10 ^ i ≡ y * 10 ^ j
lowered x y i j k m n h e f =
    cancelled (x * 10 ^ i) (y * 10 ^ j) k (omega (arith, rw (e, f, pow-add 10 i k, pow-add 10 j k) at h))

pub same_size_trans : (a b c : Number) → SameSize a b → SameSize b c → SameSize a c
same_size_trans a b c g h =
    let left = ap (λ x. x * 10 ^ c.down) (rw (pow-add 10 a.up b.down, pow-add 10 b.up a.down) at g) in
    let right = ap (λ x. x * 10 ^ a.down) (rw (pow-add 10 b.up c.down, pow-add 10 c.up b.down) at h) in
    cancelled (a.digits * 10 ^ (a.up + c.down)) (c.digits * 10 ^ (c.up + a.down)) b.down
    (rw (pow-add 10 a.up c.down, pow-add 10 c.up a.down) (omega (arith, left, right)))

zero_spreads : (a b : Number) → SameSize a b → a.digits ≡ 0 → b.digits ≡ 0
zero_spreads a b g e =
    cancelled b.digits 0 (b.up + a.down) (sym g ∙ zero_scaled a.digits (a.up + b.down) e ∙ sym (zero_scaled 0 (b.up + a.down) refl))

pub transitive : (a b c : Number) → SameNumber a b → SameNumber b c → SameNumber a c
transitive a b c g h = (same_size_trans a b c g.0 h.0, grind (arith, zero_spreads b a (sym g.0), zero_spreads b c h.0))

-- ---- normal forms

pub same_value : (a b : Value) → a.negative ≡ b.negative → a.digits ≡ b.digits → a.power ≡ b.power → a ≡ b
same_value a b p q r = λ i. record { negative = p i; digits = q i; power = r i }

zero_power : (x : ℤ) → is_zero_power x ≡ true → x ≡ pos 0
zero_power x h = grind (arith, nat_tests)

-- a normal value is zero, or its last digit isn't
pub normal_parts : (v : Value) → IsNormal v → (v.digits < 10 ^ 38) × IsTrue (is_power v.power) × ((v.digits % 10 ≢ 0) ⊎ (v ≡ zero))
normal_parts v h =
    let none : v.digits ≡ 0 → v.negative ≡ false → is_zero_power v.power ≡ true → v ≡ zero = λ d n p. same_value v zero n d (zero_power v.power p) in
    (grind (arith, nat_tests), grind (arith, nat_tests), grind (arith, nat_tests, none))

same_power : (x y : ℤ) → up_of x + down_of y ≡ up_of y + down_of x → x ≡ y
same_power x y e = grind arith

pub normal_one : (a b : Value) → IsNormal a → IsNormal b → SameNumber (exact a) (exact b) → a ≡ b
normal_one a b g h same =
    let alike : a.digits % 10 ≢ 0 → b.digits % 10 ≢ 0 → a ≡ b = λ p q.
    let s = strip_one a.digits (up_of a.power + down_of b.power) b.digits (up_of b.power + down_of a.power) same.0 p q in
    same_value a b (grind arith) s.0 (same_power a.power b.power s.1) in
    grind (arith, alike, zero_spreads (exact a) (exact b) same.0, zero_spreads (exact b) (exact a) (sym same.0), (normal_parts a g).2, (normal_parts b h).2)

pub normal_iff : (a b : Value) → IsNormal a → IsNormal b → SameNumber (exact a) (exact b) ↔ (a ≡ b)
normal_iff a b g h = (normal_one a b g h, λ e. subst (λ (x : Value). SameNumber (exact a) (exact x)) e (reflexive (exact a)))

pub denoted_one : (bs : List ℕ) (a b : Value) → IsNormal a → IsNormal b → Denotes bs (exact a) → Denotes bs (exact b) → a ≡ b
denoted_one bs a b g h d e =
    let p = parts_one bs d.0 e.0 d.1 e.1 in
    let second = subst (λ q. SameNumber (number_of q) (exact b)) (sym p) e.3 in
    normal_one a b g h (transitive (exact a) (number_of d.0) (exact b) (symmetric (number_of d.0) (exact a) d.3) second)

-- ---- whole numbers

pub negative_not_whole : (v : Value) (n : ℕ) → IsNormal v → v.negative ≡ true → SameNumber (exact v) (whole_number n) → ⊥
negative_not_whole v n h e same = grind (arith, (normal_parts v h).2)

pub fraction_not_whole : (v : Value) (n k : ℕ) → IsNormal v → v.power ≡ negsuc k → SameNumber (exact v) (whole_number n) → ⊥
fraction_not_whole v n k h e same =
    let size : v.digits * 10 ^ 0 ≡ n * 10 ^ suc k = rw (e, zero-add) at same.0 in
    grind (arith, (normal_parts v h).2, last_zero n k, mul-one v.digits)

pub below_not_whole : (v : Value) (n : ℕ) (x : ℤ) → IsNormal v → v.power ≡ x → x <ℤ pos 0 → SameNumber (exact v) (whole_number n) → ⊥
below_not_whole v n (pos k) h e l same = absurd (omega (arith, ints, l))
below_not_whole v n (negsuc k) h e l same = fraction_not_whole v n k h e same
