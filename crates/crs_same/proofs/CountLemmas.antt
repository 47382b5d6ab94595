-- Numbers from 1 to n, each at most once: if there are n of them, each is among them.
use Rattle.std.proofs.Common.{◌≡◌, ◌≢◌, ℕ, suc, ◌==◌, ◌<◌, ◌≤◌, true, false, length, List, [], ◌∷◌, ◌⊎◌, inl, inr, arith}
use Rattle.std.specs.List.{list_any, AllByRecursion, IsDistinct}
use Rattle.std.proofs.lemmas.Bool.{cases_eq, eqb-true, ne_eqb, or_cases}
use Rattle.std.proofs.lemmas.Map.Steps.{length-le_from_distinct_below}

-- from 1 to this number
abbrev pub Within : ℕ → List ℕ → Type 0
Within n [] = Unit {0}
Within n (k ∷ ks) = (1 ≤ k) × (k ≤ n) × Within n ks

abbrev pub Among : ℕ → List ℕ → Type 0
Among k [] = ⊥
Among k (j ∷ js) = (k ≡ j) ⊎ Among k js

abbrev pub Lacks : ℕ → List ℕ → Type 0
Lacks k [] = Unit {0}
Lacks k (j ∷ js) = (k ≢ j) × Lacks k js

abbrev pub Apart : List ℕ → Type 0
Apart [] = Unit {0}
Apart (k ∷ ks) = Lacks k ks × Apart ks

pub seek : (k : ℕ) (ks : List ℕ) → Among k ks ⊎ Lacks k ks
seek k [] = inr tt
seek k (j ∷ js) = elim (cases_eq k j) [
  | inl e ↦ inl (inl e)
  | inr n ↦ elim (seek k js) [
    | inl a ↦ inl (inr a)
    | inr l ↦ inr (n, l)
  ]
]

pub among-or-lacks : (k : ℕ) (ks : List ℕ) → Among k ks → Lacks k ks → ⊥
among-or-lacks k [] a l = a
among-or-lacks k (j ∷ js) (inl e) l = l.0 e
among-or-lacks k (j ∷ js) (inr a) l = among-or-lacks k js a l.1

each-below : (n : ℕ) (ks : List ℕ) → Within n ks → (q : ℕ) → list_any (λ k. q == k) ks ≡ true → (1 ≤ q) × (q ≤ n)
each-below n [] w q is = cc
each-below n (k ∷ ks) w q is = elim (or_cases (q == k) _ is) [
  | inl e ↦ let same = eqb-true q k e in (omega (arith, w.0, same), omega (arith, w.1, same))
  | inr later ↦ each-below n ks w.2 q later
]

lacked : (j : ℕ) (ks : List ℕ) → Lacks j ks → AllByRecursion (λ k. (j == k) ≡ false) ks
lacked j [] l = tt
lacked j (k ∷ ks) l = (ne_eqb j k l.0, lacked j ks l.1)

distinct : (ks : List ℕ) → Apart ks → IsDistinct ◌==◌ ks
unfolding IsDistinct
distinct [] a = tt
distinct (k ∷ ks) a = (lacked k ks a.0, distinct ks a.1)

positive : (n : ℕ) (ks : List ℕ) → Within n ks → Lacks 0 ks
positive n [] w = tt
positive n (k ∷ ks) w = (λ e. omega (arith, w.0, e), positive n ks w.2)

bound : (n : ℕ) (ks : List ℕ) → Within n ks → Apart ks → length ks ≤ n
bound n ks w a =
    let all : length (0 ∷ ks) ≤ suc n = length-le_from_distinct_below (0 ∷ ks) (suc n) (distinct (0 ∷ ks) (positive n ks w, a)) below in
    omega (arith, all)
  where
    below : (q : ℕ) → list_any (λ k. q == k) (0 ∷ ks) ≡ true → q < suc n
    below q is = elim (or_cases (q == 0) _ is) [
      | inl e ↦ omega (arith, eqb-true q 0 e)
      | inr later ↦ omega (arith, (each-below n ks w q later).1)
    ]

pub each-stands : (n : ℕ) (ks : List ℕ) (k : ℕ) → Within n ks → Apart ks → length ks ≡ n → 1 ≤ k → k ≤ n → Among k ks
each-stands n ks k w a long first last = elim (seek k ks) [
  | inl among ↦ among
  | inr lacks ↦ absurd (omega (arith, long, bound n (k ∷ ks) (first, last, w) (lacks, a)))
]
