-- Whether a property holds, with its proof or its refutation, where either was found.
use Rattle.std.proofs.Common.{◌≡◌, ◌≢◌, ◌⊎◌, ℕ, ◌≤◌, ◌==◌, nat_le, Bool, true, false, List, [], ◌∷◌, Option, Some, None, inl, inr, ⊎_elim, refl, ap, eqb-true, eq-eqb, leb-true, le-leb}
use Rattle.std.proofs.lemmas.Bool.{false≢true}
use Rattle.crs_value.specs.Sound.{Each}

pub empty-full : {A : Type 0} (x : A) (xs : List A) → [] ≡ x ∷ xs → ⊥
empty-full x xs e = cc

pub full-empty : {A : Type 0} (x : A) (xs : List A) → x ∷ xs ≡ [] → ⊥
full-empty x xs e = cc

abbrev pub Verdict : Type 0 → Type 0
Verdict A = Option (A ⊎ (A → ⊥))

abbrev pub Holds : {A : Type 0} → Verdict A → Type 0
Holds (Some (inl a)) = Unit {0}
Holds other = ⊥

abbrev pub Fails : {A : Type 0} → Verdict A → Type 0
Fails (Some (inr n)) = Unit {0}
Fails other = ⊥

pub proof : {A : Type 0} (v : Verdict A) → Holds v → A
proof (Some (inl a)) h = a
proof other h = absurd h

pub refutation : {A : Type 0} (v : Verdict A) → Fails v → A → ⊥
refutation (Some (inr n)) h = n
refutation other h = absurd h

abbrev pub via : {A B : Type 0} → (A → B) → (B → A) → Verdict A → Verdict B
via to from (Some (inl a)) = Some (inl (to a))
via to from (Some (inr n)) = Some (inr (λ b. n (from b)))
via to from None = None

abbrev pub both : {A B : Type 0} → Verdict A → Verdict B → Verdict (A × B)
both (Some (inl a)) (Some (inl b)) = Some (inl (a, b))
both (Some (inr n)) b = Some (inr (λ h. n h.0))
both a (Some (inr n)) = Some (inr (λ h. n h.1))
both a b = None

abbrev pub one_of : {A B : Type 0} → Verdict A → Verdict B → Verdict (A ⊎ B)
one_of (Some (inl a)) b = Some (inl (inl a))
one_of (Some (inr n)) (Some (inl b)) = Some (inl (inr b))
one_of (Some (inr n)) (Some (inr m)) = Some (inr (λ h. ⊎_elim n m h))
one_of a b = None

abbrev pub negated : {A : Type 0} → Verdict A → Verdict (A → ⊥)
negated (Some (inl a)) = Some (inr (λ n. n a))
negated (Some (inr n)) = Some (inl n)
negated None = None

abbrev pub implied : {A B : Type 0} → Verdict A → Verdict B → Verdict (A → B)
implied a (Some (inl b)) = Some (inl (λ h. b))
implied (Some (inl a)) (Some (inr n)) = Some (inr (λ f. n (f a)))
implied (Some (inr m)) (Some (inr n)) = Some (inl (λ a. absurd (m a)))
implied a b = None

abbrev pub refuted_by : {A B : Type 0} → (B → A → ⊥) → Verdict B → Verdict A
refuted_by against (Some (inl b)) = Some (inr (against b))
refuted_by against other = None

abbrev pub or_else : {A : Type 0} → Verdict A → Verdict A → Verdict A
or_else (Some (inl a)) other = Some (inl a)
or_else a other = other

abbrev pub shown_by : {A B : Type 0} → (B → A) → Verdict B → Verdict A
shown_by to (Some (inl b)) = Some (inl (to b))
shown_by to other = None

abbrev pub tested : {A : Type 0} (b : Bool) → (b ≡ true → A) → (A → b ≡ true) → Verdict A
tested true to from = Some (inl (to refl))
tested false to from = Some (inr (λ a. false≢true (from a)))

abbrev pub same_number : (a b : ℕ) → Verdict (a ≡ b)
same_number a b = tested (a == b) (eqb-true a b) (eq-eqb a b)

abbrev pub at_most : (a b : ℕ) → Verdict (a ≤ b)
at_most a b = tested (nat_le a b) (leb-true a b) (le-leb a b)

abbrev first_or : {A : Type 0} → A → List A → A
first_or d [] = d
first_or d (x ∷ xs) = x

abbrev others : {A : Type 0} → List A → List A
others [] = []
others (x ∷ xs) = xs

-- lists of which members that have the same place are judged
abbrev pub equal_by : {A : Type 0} → ((x y : A) → Verdict (x ≡ y)) → (xs ys : List A) → Verdict (xs ≡ ys)
equal_by judge [] [] = Some (inl refl)
equal_by judge [] (y ∷ ys) = Some (inr (empty-full y ys))
equal_by judge (x ∷ xs) [] = Some (inr (full-empty x xs))
equal_by judge (x ∷ xs) (y ∷ ys) =
    via (λ h. λ i. h.0 i ∷ h.1 i) (λ e. (ap (first_or x) e, ap others e)) (both (judge x y) (equal_by judge xs ys))

abbrev pub equal : (a b : List ℕ) → Verdict (a ≡ b)
equal = equal_by same_number

abbrev pub none : {A : Type 0} (xs : List A) → Verdict (xs ≡ [])
none [] = Some (inl refl)
none (x ∷ xs) = Some (inr (full-empty x xs))

abbrev pub some : {A : Type 0} (xs : List A) → Verdict (xs ≢ [])
some xs = negated (none xs)

abbrev pub each : {V : Type 0} (P : V → Type 0) → ((v : V) → Verdict (P v)) → (vs : List V) → Verdict (Each P vs)
each P judge [] = Some (inl tt)
each P judge (v ∷ vs) = both (judge v) (each P judge vs)
