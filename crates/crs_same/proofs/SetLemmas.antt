-- Sets: the member at a place is one of the list.
use Rattle.std.proofs.Common.{◌≡◌, ◌+◌, ◌<◌, ℕ, zero, suc, List, [], ◌∷◌, Some, arith, drop, get_or, le_of_suc-le-suc, length, not-suc-le-zero, slice_get, inl, inr, subst, sym, take}
use Rattle.crs_same.specs.Sameness.{IsSameness}
use Rattle.crs_same.specs.SameIdents.{AllHaveSame, HasSame, SameSet}

-- x is the same as the one at this place
pub has_at : {V : Type 0} (Same : V → V → Type 0) (x : V) (ys : List V) (at : ℕ) → HasSame Same x (take 1 (drop at ys)) → HasSame Same x ys
has_at Same x [] zero h = h
has_at Same x [] (suc at) h = h
has_at Same x (y ∷ ys) zero (inl same) = inl same
has_at Same x (y ∷ ys) zero (inr it) = absurd it
has_at Same x (y ∷ ys) (suc at) h = inr (has_at Same x ys at h)

pub at_place : {V : Type 0} (Same : V → V → Type 0) (x : V) (ys : List V) (at : ℕ) (y : V)
    → slice_get ys at ≡ Some y → Same x y → HasSame Same x (take 1 (drop at ys))
at_place Same x [] at y e s = absurd cc
at_place Same x (z ∷ ys) zero y e s = let k : z ≡ y = cc in inl (subst (λ it. Same x it) (sym k) s)
at_place Same x (z ∷ ys) (suc at) y e s = at_place Same x ys at y e s

-- if x is the same as y and y has a counterpart, so has x
has_from : {V : Type 0} (Same : V → V → Type 0) → IsSameness Same → (x y : V) (zs : List V)
    → Same x y → HasSame Same y zs → HasSame Same x zs
has_from Same law x y [] same h = absurd h
has_from Same law x y (z ∷ zs) same (inl other) = inl (law.transitive x y z same other)
has_from Same law x y (z ∷ zs) same (inr h) = inr (has_from Same law x y zs same h)

-- if x is the same as one of some members that have counterparts, so has x
pub has_over : {V : Type 0} (Same : V → V → Type 0) → IsSameness Same → (x : V) (ys zs : List V)
    → HasSame Same x ys → AllHaveSame Same ys zs → HasSame Same x zs
has_over Same law x [] zs h all = absurd h
has_over Same law x (y ∷ ys) zs (inl same) all = has_from Same law x y zs same all.0
has_over Same law x (y ∷ ys) zs (inr h) all = has_over Same law x ys zs h all.1

all_suc : {V : Type 0} (Same : V → V → Type 0) (xs ys : List V) (count : ℕ) (x : V) → x ≡ get_or xs count x
    → count < length xs → AllHaveSame Same (take count xs) ys → HasSame Same x ys → AllHaveSame Same (take (suc count) xs) ys
all_suc Same [] ys count x e within all h = absurd (not-suc-le-zero within)
all_suc Same (z ∷ xs) ys zero x e within all h = (subst (λ it. HasSame Same it ys) e h, tt)
all_suc Same (z ∷ xs) ys (suc count) x e within all h =
    (all.0, all_suc Same xs ys count x e (le_of_suc-le-suc within) all.1 h)

-- one more has a counterpart
pub all_more : {V : Type 0} (Same : V → V → Type 0) (xs ys : List V) (count : ℕ) (x : V) → x ≡ get_or xs count x
    → count < length xs → AllHaveSame Same (take count xs) ys → HasSame Same x ys → AllHaveSame Same (take (count + 1) xs) ys
all_more Same xs ys count x e within all h =
    let next : suc count ≡ count + 1 = omega arith in
    subst (λ n. AllHaveSame Same (take n xs) ys) next (all_suc Same xs ys count x e within all h)

pub all_at : {V : Type 0} (Same : V → V → Type 0) (xs ys : List V) (at : ℕ) (x : V) → x ≡ get_or xs at x
    → at < length xs → AllHaveSame Same xs ys → HasSame Same x ys
all_at Same [] ys at x e within all = absurd (not-suc-le-zero within)
all_at Same (z ∷ xs) ys zero x e within all = subst (λ it. HasSame Same it ys) (sym e) all.0
all_at Same (z ∷ xs) ys (suc at) x e within all = all_at Same xs ys at x e (le_of_suc-le-suc within) all.1

-- ---- members that are the same place by place

-- what is the same as one of the list is the same as a member
same_as_at : {V : Type 0} (Same : V → V → Type 0) (xs : List V) (at : ℕ) (x y : V) → x ≡ get_or xs at x
    → at < length xs → Same y x → HasSame Same y xs
same_as_at Same [] at x y e within same = absurd (not-suc-le-zero within)
same_as_at Same (z ∷ xs) zero x y e within same = inl (subst (λ it. Same y it) e same)
same_as_at Same (z ∷ xs) (suc at) x y e within same = inr (same_as_at Same xs at x y e (le_of_suc-le-suc within) same)

turned_suc : {V : Type 0} (Same : V → V → Type 0) → IsSameness Same → (x : V) (ys zs : List V) (at : ℕ)
    → ((y : V) → Same y x → HasSame Same y zs) → HasSame Same x (take 1 (drop at ys)) → AllHaveSame Same (take at ys) zs
    → AllHaveSame Same (take (suc at) ys) zs
turned_suc Same law x [] zs zero has h all = tt
turned_suc Same law x [] zs (suc at) has h all = tt
turned_suc Same law x (y ∷ ys) zs zero has (inl same) all = (has y (law.symmetric x y same), tt)
turned_suc Same law x (y ∷ ys) zs zero has (inr it) all = absurd it
turned_suc Same law x (y ∷ ys) zs (suc at) has h all = (all.0, turned_suc Same law x ys zs at has h all.1)

-- one more of the others has a counterpart
pub turned_more : {V : Type 0} (Same : V → V → Type 0) → IsSameness Same → (xs ys : List V) (at : ℕ) (x : V)
    → x ≡ get_or xs at x → at < length xs → HasSame Same x (take 1 (drop at ys)) → AllHaveSame Same (take at ys) xs
    → AllHaveSame Same (take (at + 1) ys) xs
turned_more Same law xs ys at x e within h all =
    let next : suc at ≡ at + 1 = omega arith in
    subst (λ n. AllHaveSame Same (take n ys) xs) next (turned_suc Same law x ys xs at (λ y same. same_as_at Same xs at x y e within same) h all)

all_with : {V : Type 0} (Same : V → V → Type 0) (xs ys : List V) (y : V) → AllHaveSame Same xs ys → AllHaveSame Same xs (y ∷ ys)
all_with Same [] ys y all = tt
all_with Same (x ∷ xs) ys y all = (inr all.0, all_with Same xs ys y all.1)

-- with one more before each
pub both_with : {V : Type 0} (Same : V → V → Type 0) → IsSameness Same → (x y : V) (xs ys : List V) → Same x y
    → SameSet Same xs ys → SameSet Same (x ∷ xs) (y ∷ ys)
both_with Same law x y xs ys same sets = (
  (inl same, all_with Same xs ys y sets.0),
  (inl (law.symmetric x y same), all_with Same ys xs x sets.1),
)
