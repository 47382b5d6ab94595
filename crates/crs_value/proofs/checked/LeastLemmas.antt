-- The first fault of several sets of faults.
use Rattle.std.proofs.Common.{◌≡◌, ℕ, ◌<◌, ◌≤◌, true, false, inl, inr, ◌⊎◌, ⊎_elim, ◌↔◌, Option, Some, None, List, [], ◌∷◌, ◌++◌, if◌then◌else◌, refl, sym, subst, arith, IsFalse}
use Rattle.std.proofs.lemmas.Bool.Decides.{nat_tests}
use Rattle.crs_text.specs.inner.Prelude.{Item, RefusedAt, is_before}
use Rattle.crs_value.specs.Checks.{AnyOf, IsLeast}
use Rattle.crs_value.specs.inner.Arguments.{lesser}

-- b doesn't go before a
abbrev pub IsFirst : RefusedAt → RefusedAt → Type 0
IsFirst a b = IsFalse (is_before b a)

pub first-trans : (a b c : RefusedAt) → IsFirst a b → IsFirst b c → IsFirst a c
first-trans a b c p q = grind (arith, nat_tests)

-- what goes before another is first of both
before-first : (a b : RefusedAt) → is_before b a ≡ true → IsFirst b a
before-first a b e = grind (arith, nat_tests)

pub first-self : (a : RefusedAt) → IsFirst a a
first-self a = grind (arith, nat_tests)

pub first-lower : (a b : RefusedAt) → a.number < b.number → IsFirst a b
first-lower a b p = grind (arith, nat_tests)

pub same-fault : (a b : RefusedAt) → a.number ≡ b.number → a.place ≡ b.place → a ≡ b
same-fault a b numbers places = λ i. record { number = numbers i; place = places i }

-- two faults of which each is first of both are one
pub first-both : (a b : RefusedAt) → IsFirst a b → IsFirst b a → a ≡ b
first-both a b p q = same-fault a b (grind (arith, nat_tests)) (grind (arith, nat_tests))

pub lesser-none : (a : Option RefusedAt) → lesser a None ≡ a
lesser-none None = refl
lesser-none (Some f) = refl

-- the first of either set is the lesser of their first ones
pub least-either : (P Q : RefusedAt → Type 0) (a b : Option RefusedAt) → IsLeast P a → IsLeast Q b → IsLeast (λ f. P f ⊎ Q f) (lesser a b)
least-either P Q None None p q = λ f. ⊎_elim (p f) (q f)
least-either P Q None (Some b) p q = (inr q.0, λ f. ⊎_elim (λ h. absurd (p f h)) (q.1 f))
least-either P Q (Some a) None p q = (inl p.0, λ f. ⊎_elim (p.1 f) (λ h. absurd (q f h)))
least-either P Q (Some a) (Some b) p q =
    elim (is_before b a) as (λ t. is_before b a ≡ t → IsLeast (λ f. P f ⊎ Q f) (if t then Some b else Some a)) [
      | true ↦ λ e. (inr q.0, λ f. ⊎_elim (λ h. first-trans b a f (before-first a b e) (p.1 f h)) (q.1 f))
      | false ↦ λ e. (inl p.0, λ f. ⊎_elim (p.1 f) (λ h. first-trans a b f e (q.1 f h)))
    ] refl

-- sets with the same faults have the same first one
pub least-same : (P Q : RefusedAt → Type 0) (o : Option RefusedAt) → ((f : RefusedAt) → P f → Q f) → ((f : RefusedAt) → Q f → P f) → IsLeast P o → IsLeast Q o
least-same P Q None to back h = λ f q. h f (back f q)
least-same P Q (Some a) to back h = (to a h.0, λ f q. h.1 f (back f q))

-- the same beside others
pub least-beside : (A P Q : RefusedAt → Type 0) (o : Option RefusedAt) → ((f : RefusedAt) → P f → Q f) → ((f : RefusedAt) → Q f → P f) → IsLeast (λ f. A f ⊎ P f) o →
    IsLeast (λ f. A f ⊎ Q f) o
least-beside A P Q o to back h =
    least-same (λ f. A f ⊎ P f) (λ f. A f ⊎ Q f) o (λ f. ⊎_elim (λ a. inl a) (λ x. inr (to f x))) (λ f. ⊎_elim (λ a. inl a) (λ x. inr (back f x))) h

-- one fault under a condition
pub least-one : (g : RefusedAt) (C : Type 0) → C → IsLeast (λ f. (f ≡ g) × C) (Some g)
least-one g C holds = ((refl, holds), λ f h. let P : RefusedAt → Type 0 = λ x. IsFirst g x in subst P (sym h.0) (first-self g))

-- either of three, in another order
pub or-more : {A B C D : Type 0} → (B ↔ (C ⊎ D)) → (A ⊎ B) ↔ ((A ⊎ C) ⊎ D)
or-more rest = (
  ⊎_elim (λ h. inl (inl h)) (λ h. ⊎_elim (λ k. inl (inr k)) (λ k. inr k) (rest.0 h)),
  ⊎_elim (⊎_elim (λ h. inl h) (λ h. inr (rest.1 (inl h)))) (λ h. inr (rest.1 (inr h))),
)

pub or-alone : {A : Type 0} → (A ⊎ ⊥) ↔ (⊥ ⊎ A)
or-alone = (⊎_elim (λ h. inr h) (λ h. absurd h), ⊎_elim (λ h. absurd h) (λ h. inl h))

-- one item more
any-more : (B : Item → RefusedAt → Type 0) (xs : List Item) (x : Item) (f : RefusedAt) → AnyOf B (xs ++ x ∷ []) f ↔ (AnyOf B xs f ⊎ B x f)
any-more B [] x f = or-alone
any-more B (y ∷ ys) x f = or-more (any-more B ys x f)

pub least-single : (B : Item → RefusedAt → Type 0) (item : Item) (o : Option RefusedAt) → IsLeast (B item) o → IsLeast (AnyOf B (item ∷ [])) o
least-single B item o h = least-same (B item) (AnyOf B (item ∷ [])) o (λ f k. inl k) (λ f. ⊎_elim (λ k. k) (λ k. absurd k)) h

pub least-more : (B : Item → RefusedAt → Type 0) (done : List Item) (item : Item) (a b : Option RefusedAt) → IsLeast (AnyOf B done) a → IsLeast (B item) b →
    IsLeast (AnyOf B (done ++ item ∷ [])) (lesser a b)
least-more B done item a b p q =
    least-same (λ f. AnyOf B done f ⊎ B item f) (AnyOf B (done ++ item ∷ [])) (lesser a b) (λ f. (any-more B done item f).1) (λ f. (any-more B done item f).0)
    (least-either (AnyOf B done) (B item) a b p q)

-- the refusal at one item, under a condition or none
pub least-at : (g r : RefusedAt) (C : Type 0) → r ≡ g → C → IsLeast (λ f. (f ≡ g) × C) (Some r)
least-at g r C e holds = let P : RefusedAt → Type 0 = λ x. IsLeast (λ f. (f ≡ g) × C) (Some x) in subst P (sym e) (least-one g C holds)

pub least-is : (g r : RefusedAt) → r ≡ g → IsLeast (λ f. f ≡ g) (Some r)
least-is g r e = (e, λ f h. let P : RefusedAt → Type 0 = λ x. IsFirst x f in let Q : RefusedAt → Type 0 = λ x. IsFirst g x in subst P (sym e) (subst Q (sym h) (first-self g)))

pub either-is : (P Q : RefusedAt → Type 0) (a b r : Option RefusedAt) → r ≡ lesser a b → IsLeast P a → IsLeast Q b → IsLeast (λ f. P f ⊎ Q f) r
either-is P Q a b r e p q = let R : Option RefusedAt → Type 0 = λ o. IsLeast (λ f. P f ⊎ Q f) o in subst R (sym e) (least-either P Q a b p q)

-- a first fault with a number below all of another set
pub least-below : (P Q : RefusedAt → Type 0) (n : ℕ) (r : RefusedAt) → r.number < n → ((f : RefusedAt) → Q f → n ≤ f.number) → IsLeast P (Some r) → IsLeast (λ f. P f ⊎ Q f) (Some r)
least-below P Q n r below high h = (inl h.0, λ f. ⊎_elim (h.1 f) (λ x. first-lower r f (omega (arith, below, high f x))))
