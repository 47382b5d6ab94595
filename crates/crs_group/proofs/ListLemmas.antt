-- Members of lists that grow, or change at a place.
use Rattle.std.proofs.Common.{◌≡◌, ◌⊎◌, ◌++◌, ◌∷◌, [], ℕ, zero, suc, List, Some, length, slice_get, slice_set, map, inl, inr, refl, arith, eq-eqb, ◌==◌, if◌then◌else◌}
use Rattle.std.proofs.lemmas.Bool.{ne_eqb}
use Rattle.crs_group.specs.Catalogue.{nth}
use Rattle.crs_value.specs.Sound.{Each}

pub each-append : {A : Type 0} (P : A → Type 0) (xs : List A) (x : A) → Each P xs → P x → Each P (xs ++ x ∷ [])
each-append P [] x each here = (here, tt)
each-append P (y ∷ ys) x each here = (each.0, each-append P ys x each.1 here)

pub each-by : {A : Type 0} (P Q : A → Type 0) → ((x : A) → P x → Q x) → (xs : List A) → Each P xs → Each Q xs
each-by P Q f [] each = tt
each-by P Q f (x ∷ xs) each = (f x each.0, each-by P Q f xs each.1)

-- a member stays at its place
pub get-front : {A : Type 0} (xs ys : List A) (k : ℕ) (v : A) → slice_get xs k ≡ Some v
    → slice_get (xs ++ ys) k ≡ Some v
get-front [] ys k v e = absurd cc
get-front (x ∷ xs) ys zero v e = e
get-front (x ∷ xs) ys (suc k) v e = get-front xs ys k v e

pub get-last : {A : Type 0} (xs : List A) (x : A) → slice_get (xs ++ x ∷ []) (length xs) ≡ Some x
get-last [] x = refl
get-last (y ∷ ys) x = get-last ys x

-- a member of a longer list was there, or is the last
pub get-either : {A : Type 0} (xs : List A) (x : A) (k : ℕ) (v : A) → slice_get (xs ++ x ∷ []) k ≡ Some v
    → (slice_get xs k ≡ Some v) ⊎ ((k ≡ length xs) × (v ≡ x))
get-either [] x zero v e = inr (refl, cc)
get-either [] x (suc k) v e = absurd cc
get-either (y ∷ ys) x zero v e = inl e
get-either (y ∷ ys) x (suc k) v e = grind (arith, get-either ys x k v e)

-- a changed list has the new member at its place, and the old ones elsewhere
pub get-changed : {A : Type 0} (xs : List A) (at : ℕ) (x : A) (k : ℕ) (v : A)
    → slice_get (slice_set xs at x) k ≡ Some v
    → ((k ≡ at) × (v ≡ x)) ⊎ ((¬ (at ≡ k)) × (slice_get xs k ≡ Some v))
get-changed [] at x k v e = absurd cc
get-changed (y ∷ ys) zero x zero v e = inl (refl, cc)
get-changed (y ∷ ys) zero x (suc k) v e = inr (λ h. omega arith, e)
get-changed (y ∷ ys) (suc at) x zero v e = inr (λ h. omega arith, e)
get-changed (y ∷ ys) (suc at) x (suc k) v e = grind (arith, get-changed ys at x k v e)

-- a change that keeps what f says of a member keeps what f says of the list
pub map-changed : {A B : Type 0} (f : A → B) (xs : List A) (at : ℕ) (x y : A) → slice_get xs at ≡ Some x → f y ≡ f x
    → map f (slice_set xs at y) ≡ map f xs
map-changed f [] at x y e same = absurd cc
map-changed f (z ∷ zs) zero x y e same = let is : z ≡ x = cc in rw (same, is) refl
map-changed f (z ∷ zs) (suc at) x y e same = rw (map-changed f zs at x y e same) refl

-- members counted from 1
pub nth-front : {A : Type 0} (xs ys : List A) (n : ℕ) (v : A) → nth n xs ≡ Some v → nth n (xs ++ ys) ≡ Some v
nth-front xs ys zero v e = e
nth-front xs ys (suc k) v e = get-front xs ys k v e

pub nth-either : {A : Type 0} (xs : List A) (x : A) (n : ℕ) (v : A) → nth n (xs ++ x ∷ []) ≡ Some v
    → (nth n xs ≡ Some v) ⊎ ((n ≡ suc (length xs)) × (v ≡ x))
nth-either xs x zero v e = absurd cc
nth-either xs x (suc k) v e = grind (arith, get-either xs x k v e)

pub nth-changed : {A : Type 0} (xs : List A) (at : ℕ) (x : A) (n : ℕ) (v : A) → nth n (slice_set xs at x) ≡ Some v
    → ((n ≡ suc at) × (v ≡ x)) ⊎ ((¬ (suc at ≡ n)) × (nth n xs ≡ Some v))
nth-changed xs at x zero v e = absurd cc
nth-changed xs at x (suc k) v e = grind (arith, get-changed xs at x k v e)

-- a test of two numbers
pub if-equal : {A : Type 0} (m n : ℕ) (same other : A) → m ≡ n → (if m == n then same else other) ≡ same
if-equal m n same other e = rw (eq-eqb m n e) refl

pub if-other : {A : Type 0} (m n : ℕ) (same other : A) → ¬ (m ≡ n) → (if m == n then same else other) ≡ other
if-other m n same other e = rw (ne_eqb m n e) refl
