-- How equivalences are put together: by a field, by parts, of what may be missing, and of sets.
use Rattle.std.proofs.Common.{◌≡◌, ◌↔◌, ◌∙◌, refl, sym, List, [], ◌∷◌, Option, Some, None, inl, inr}
use Rattle.crs_same.specs.Sameness.{IsSameness, IsSamenessOf}
use Rattle.crs_same.specs.SameIdents.{HasSame, AllHaveSame, SameSet, BothOrNeither}

infixr 20 ◌⊗◌
-- a field that is equal
pub equal-by : {A B : Type 0} (f : A → B) → IsSameness (λ (a b : A). f a ≡ f b)
equal-by f = record { reflexive = λ a. refl; symmetric = λ a b e. sym e; transitive = λ a b c e g. e ∙ g }

-- a field that is the same
pub by : {A B : Type 0} {Same : B → B → Type 0} (f : A → B) → IsSameness Same →
    IsSameness (λ (a b : A). Same (f a) (f b))
by f s = record {
  reflexive = λ a. s.reflexive (f a);
  symmetric = λ a b r. s.symmetric (f a) (f b) r;
  transitive = λ a b c r t. s.transitive (f a) (f b) (f c) r t;
}

-- two sets of parts, each of which is the same
pub ◌⊗◌ : {A : Type 0} {R S : A → A → Type 0} → IsSameness R → IsSameness S → IsSameness (λ (a b : A). R a b × S a b)
r ⊗ s = record {
  reflexive = λ a. (r.reflexive a, s.reflexive a);
  symmetric = λ a b p. (r.symmetric a b p.0, s.symmetric a b p.1);
  transitive = λ a b c p q. (r.transitive a b c p.0 q.0, s.transitive a b c p.1 q.1);
}

-- a relation that another one states in other words
pub in-words : {A : Type 0} {R S : A → A → Type 0} → IsSameness S → ((a b : A) → R a b → S a b) →
    ((a b : A) → S a b → R a b) → IsSameness R
in-words s there back = record {
  reflexive = λ a. back a a (s.reflexive a);
  symmetric = λ a b r. back b a (s.symmetric a b (there a b r));
  transitive = λ a b c p q. back a c (s.transitive a b c (there a b p) (there b c q));
}

-- where all parts are the same exactly where the values agree: the former from the latter
pub same-as : {A : Type 0} {S R : A → A → Type 0} → ((a b : A) → S a b ↔ R a b) → IsSameness R → IsSameness S
same-as is r = in-words r (λ a b. (is a b).0) (λ a b. (is a b).1)

-- the latter from the former
pub agree-as : {A : Type 0} {S R : A → A → Type 0} → ((a b : A) → S a b ↔ R a b) → IsSameness S → IsSameness R
agree-as is s = in-words s (λ a b. (is a b).1) (λ a b. (is a b).0)

-- ---- over the values that have a property

-- sameness of the values with their proofs is sameness of those that have the property
pub over : {A : Type 0} {P : A → Type 0} {R : A → A → Type 0} → IsSameness (λ (x y : (a : A) × P a). R x.0 y.0) →
    IsSamenessOf P R
over s = record {
  reflexive = λ a p. s.reflexive (a, p);
  symmetric = λ a b p q. s.symmetric (a, p) (b, q);
  transitive = λ a b c p q r. s.transitive (a, p) (b, q) (c, r);
}

-- and conversely
pub of : {A : Type 0} {P : A → Type 0} {R : A → A → Type 0} → IsSamenessOf P R →
    IsSameness (λ (x y : (a : A) × P a). R x.0 y.0)
of s = record {
  reflexive = λ x. s.reflexive x.0 x.1;
  symmetric = λ x y. s.symmetric x.0 y.0 x.1 y.1;
  transitive = λ x y z. s.transitive x.0 y.0 z.0 x.1 y.1 z.1;
}

-- as `same-as`, of values that have the property
pub same-as-of : {A : Type 0} {P : A → Type 0} {S R : A → A → Type 0} → ((a b : A) → P a → P b → S a b ↔ R a b) →
    IsSamenessOf P R → IsSamenessOf P S
same-as-of is r = over (same-as (λ x y. is x.0 y.0 x.1 y.1) (of r))

-- as `agree-as`, of values that have the property
pub agree-as-of : {A : Type 0} {P : A → Type 0} {S R : A → A → Type 0} → ((a b : A) → P a → P b → S a b ↔ R a b) →
    IsSamenessOf P S → IsSamenessOf P R
agree-as-of is s = over (agree-as (λ x y. is x.0 y.0 x.1 y.1) (of s))

-- ---- what may be missing

-- both are missing, or both are there and the same
pub optional : {A : Type 0} {R : A → A → Type 0} → IsSameness R → IsSameness (BothOrNeither R)
optional {A} {R} s = record { reflexive = itself; symmetric = swapped; transitive = joined }
  where
    itself : (a : Option A) → BothOrNeither R a a
    itself None = tt
    itself (Some a) = s.reflexive a

    swapped : (a b : Option A) → BothOrNeither R a b → BothOrNeither R b a
    swapped None None r = tt
    swapped (Some a) (Some b) r = s.symmetric a b r
    swapped a b r = absurd r

    joined : (a b c : Option A) → BothOrNeither R a b → BothOrNeither R b c → BothOrNeither R a c
    joined None None c p q = q
    joined (Some a) (Some b) (Some c) p q = s.transitive a b c p q
    joined (Some a) (Some b) None p q = absurd q
    joined a b c p q = absurd p

-- ---- sets

module _ {A : Type 0} {R : A → A → Type 0} (s : IsSameness R) where
  all-more : (xs ys : List A) (y : A) → AllHaveSame R xs ys → AllHaveSame R xs (y ∷ ys)
  all-more [] ys y all = tt
  all-more (x ∷ xs) ys y all = (inr all.0, all-more xs ys y all.1)

  all-themselves : (xs : List A) → AllHaveSame R xs xs
  all-themselves [] = tt
  all-themselves (x ∷ xs) = (inl (s.reflexive x), all-more xs xs x (all-themselves xs))

  has-over : (x y : A) (zs : List A) → R x y → HasSame R y zs → HasSame R x zs
  has-over x y [] r has = absurd has
  has-over x y (z ∷ zs) r (inl same) = inl (s.transitive x y z r same)
  has-over x y (z ∷ zs) r (inr has) = inr (has-over x y zs r has)

  has-among : (x : A) (ys zs : List A) → HasSame R x ys → AllHaveSame R ys zs → HasSame R x zs
  has-among x [] zs has all = absurd has
  has-among x (y ∷ ys) zs (inl same) all = has-over x y zs same all.0
  has-among x (y ∷ ys) zs (inr has) all = has-among x ys zs has all.1

  all-among : (xs ys zs : List A) → AllHaveSame R xs ys → AllHaveSame R ys zs → AllHaveSame R xs zs
  all-among [] ys zs p q = tt
  all-among (x ∷ xs) ys zs p q = (has-among x ys zs p.0 q, all-among xs ys zs p.1 q)

  pub set : IsSameness (SameSet R)
  set = record {
    reflexive = λ xs. (all-themselves xs, all-themselves xs);
    symmetric = λ xs ys p. (p.1, p.0);
    transitive = λ xs ys zs p q. (all-among xs ys zs p.0 q.0, all-among zs ys xs q.1 p.1);
  }
