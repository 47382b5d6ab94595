-- Lists of the same members.
use Rattle.std.proofs.Common.{◌≡◌, ◌+◌, ◌<◌, ℕ, zero, suc, List, [], ◌∷◌, ◌++◌, Some, get_or, add-one, le_of_suc-le-suc, length, not-suc-le-zero, slice_get, inl, inr, refl, subst, sym, take}
use Rattle.std.proofs.Math.Seq.{take-suc}
use Rattle.crs_value.specs.Members.{IsIn, AreIn}

pub in-at : {A : Type 0} (x : A) (ys : List A) (at : ℕ) (y : A) → slice_get ys at ≡ Some y → x ≡ y → IsIn x ys
in-at x [] at y e s = absurd cc
in-at x (z ∷ ys) zero y e s = inl cc
in-at x (z ∷ ys) (suc at) y e s = inr (in-at x ys at y e s)

-- x stands in a list at an index
pub in-index : {A : Type 0} (xs : List A) (at : ℕ) (x : A) → x ≡ get_or xs at x → at < length xs → IsIn x xs
in-index [] at x e within = absurd (not-suc-le-zero within)
in-index (z ∷ xs) zero x e within = inl e
in-index (z ∷ xs) (suc at) x e within = inr (in-index xs at x e (le_of_suc-le-suc within))

in-front : {A : Type 0} (x : A) (ys zs : List A) → IsIn x ys → IsIn x (ys ++ zs)
in-front x [] zs h = absurd h
in-front x (y ∷ ys) zs (inl e) = inl e
in-front x (y ∷ ys) zs (inr h) = inr (in-front x ys zs h)

pub in-end : {A : Type 0} (x : A) (ys : List A) → IsIn x (ys ++ x ∷ [])
in-end x [] = inl refl
in-end x (y ∷ ys) = inr (in-end x ys)

are-each : {A : Type 0} (xs ys zs : List A) → ((x : A) → IsIn x ys → IsIn x zs) → AreIn xs ys → AreIn xs zs
are-each [] ys zs on all = tt
are-each (x ∷ xs) ys zs on all = (on x all.0, are-each xs ys zs on all.1)

pub are-front : {A : Type 0} (xs ys zs : List A) → AreIn xs ys → AreIn xs (ys ++ zs)
are-front xs ys zs all = are-each xs ys (ys ++ zs) (λ x. in-front x ys zs) all

-- one more is among the others
pub are-one-more : {A : Type 0} (xs ys : List A) (x : A) → AreIn xs ys → IsIn x ys → AreIn (xs ++ x ∷ []) ys
are-one-more [] ys x all h = (h, tt)
are-one-more (y ∷ xs) ys x all h = (all.0, are-one-more xs ys x all.1 h)

pub in-over : {A : Type 0} (x : A) (ys zs : List A) → IsIn x ys → AreIn ys zs → IsIn x zs
in-over x [] zs h all = absurd h
in-over x (y ∷ ys) zs (inl e) all = subst (λ it. IsIn it zs) (sym e) all.0
in-over x (y ∷ ys) zs (inr h) all = in-over x ys zs h all.1

pub are-all : {A : Type 0} (xs : List A) → AreIn xs xs
are-all [] = tt
are-all (x ∷ xs) = (inl refl, are-each xs xs (x ∷ xs) (λ y h. inr h) (are-all xs))

-- one more taken
pub taken-more : {A : Type 0} (xs ys : List A) (count : ℕ) (x : A) → x ≡ get_or xs count x → count < length xs →
    AreIn (take count xs) ys → IsIn x ys → AreIn (take (count + 1) xs) ys
taken-more xs ys count x e within all h =
    rw (add-one, take-suc xs count x within, ← e) (are-one-more (take count xs) ys x all h)
