-- Powers of ten.
use Rattle.std.proofs.Common.{◌≡◌, ℕ, suc, ◌+◌, ◌*◌, ◌^◌, ◌%◌, ◌<◌, ◌≤◌, ◌≢◌, zero, refl, ap, sym, ◌∙◌, arith, add-one}
use Rattle.std.proofs.Math.Nat.{mul-one, pow-suc, pow-le-pow_right, mul-le-mul_left, mul_assoc, one-le-pow}

pub power_more : (n : ℕ) → 10 ^ (n + 1) ≡ 10 ^ n * 10
power_more n = rw add-one (pow-suc 10 n)

pub power_positive : (n : ℕ) → 0 < 10 ^ n
power_positive n = one-le-pow n 10 (omega arith)

pub power_grows : (m n : ℕ) → m ≤ n → 10 ^ m ≤ 10 ^ n
power_grows m n h = pow-le-pow_right (omega arith) h

pub scaled_more : (digits n product : ℕ) → product ≡ digits * 10 ^ n → product * 10 ≡ digits * 10 ^ (n + 1)
scaled_more digits n product h = rw power_more (ap (λ p. p * 10) h ∙ mul_assoc digits (10 ^ n) 10)

pub scaled_grows : (digits m n : ℕ) → m ≤ n → digits * 10 ^ m ≤ digits * 10 ^ n
scaled_grows digits m n h = mul-le-mul_left digits (power_grows m n h)

-- ten times as much is still no more than at a higher power
pub scaled_below : (digits m n product : ℕ) → product ≡ digits * 10 ^ m → m < n → product * 10 ≤ digits * 10 ^ n
scaled_below digits m n product e h = omega (arith, scaled_more digits m product e, scaled_grows digits (m + 1) n (omega arith))

-- ---- a number that isn't zero is stripped of its closing zeros in one way

pub power_next : (n : ℕ) → 10 ^ suc n ≡ 10 ^ n * 10
power_next n = pow-suc 10 n

product_next : (m k : ℕ) → m * 10 ^ suc k ≡ m * 10 ^ k * 10
product_next m k = ap (λ p. m * p) (power_next k) ∙ sym (mul_assoc m (10 ^ k) 10)

pub last_zero : (m k : ℕ) → (m * 10 ^ suc k) % 10 ≡ 0
last_zero m k = rw product_next (omega arith)

pub strip_one : (m k n j : ℕ) → m * 10 ^ k ≡ n * 10 ^ j → m % 10 ≢ 0 → n % 10 ≢ 0 → (m ≡ n) × (k ≡ j)
strip_one m zero n zero e p q = (omega (arith, e), refl)
strip_one m zero n (suc j) e p q = absurd (p (ap (λ x. x % 10) (sym (mul-one m) ∙ e) ∙ last_zero n j))
strip_one m (suc k) n zero e p q = absurd (q (ap (λ x. x % 10) (sym (mul-one n) ∙ sym e) ∙ last_zero m k))
strip_one m (suc k) n (suc j) e p q =
    let same : m * 10 ^ k ≡ n * 10 ^ j = omega (arith, e, product_next m k, product_next n j) in
    let r = strip_one m k n j same p q in
    (r.0, ap (λ x. suc x) r.1)
