-- Sets: lists of the same members are the same set.
use Rattle.std.proofs.Common.{◌↔◌, List, [], ◌∷◌, inl, inr, subst, sym}
use Rattle.crs_value.specs.declared.values.level.Level.{Level}
use Rattle.crs_value.specs.declared.values.level.Level.TheVariants as levels
use Rattle.crs_value.specs.inner.Prelude.{IsIn, AreIn, HaveSameMembers}
use Rattle.crs_value.specs.NamedValues.{IdentParts}
use Rattle.crs_same.specs.SameIdents.{SameIdent, SameIdents, HasSame, AllHaveSame, SameSet}

-- a same one among these is among those that they are of
same-of : {V : Type 0} (Same : V → V → Type 0) (x y : V) (zs : List V) → Same x y → IsIn y zs → HasSame Same x zs
same-of Same x y [] same h = absurd h
same-of Same x y (z ∷ zs) same (inl e) = inl (subst (λ it. Same x it) e same)
same-of Same x y (z ∷ zs) same (inr h) = inr (same-of Same x y zs same h)

has-wider : {V : Type 0} (Same : V → V → Type 0) (x : V) (ys zs : List V) → HasSame Same x ys → AreIn ys zs → HasSame Same x zs
has-wider Same x [] zs h all = absurd h
has-wider Same x (y ∷ ys) zs (inl same) all = same-of Same x y zs same all.0
has-wider Same x (y ∷ ys) zs (inr h) all = has-wider Same x ys zs h all.1

-- what each has, these of them have
has-among : {V : Type 0} (Same : V → V → Type 0) (x : V) (xs ys : List V) → IsIn x xs → AllHaveSame Same xs ys → HasSame Same x ys
has-among Same x [] ys h all = absurd h
has-among Same x (z ∷ xs) ys (inl e) all = subst (λ it. HasSame Same it ys) (sym e) all.0
has-among Same x (z ∷ xs) ys (inr h) all = has-among Same x xs ys h all.1

-- these have same ones among those where they have among lists of the same members
all-over : {V : Type 0} (Same : V → V → Type 0) (xs xs' ys ys' : List V) → AreIn xs xs' → AreIn ys' ys →
    AllHaveSame Same xs' ys' → AllHaveSame Same xs ys
all-over Same [] xs' ys ys' among wider all = tt
all-over Same (x ∷ xs) xs' ys ys' among wider all = (
  has-wider Same x ys' ys (has-among Same x xs' ys' among.0 all) wider,
  all-over Same xs xs' ys ys' among.1 wider all,
)

sets-over : {V : Type 0} (Same : V → V → Type 0) (xs xs' ys ys' : List V) → HaveSameMembers xs xs' → HaveSameMembers ys ys' →
    SameSet Same xs' ys' → SameSet Same xs ys
sets-over Same xs xs' ys ys' these those same =
    (all-over Same xs xs' ys ys' these.0 those.1 same.0, all-over Same ys ys' xs xs' those.0 these.1 same.1)

-- identifiers are the same where lists of the same members are
pub idents-once : (level : Level) (xs' xs ys' ys : List IdentParts) → HaveSameMembers xs' xs → HaveSameMembers ys' ys →
    (SameIdents level xs' ys' ↔ SameIdents level xs ys)
idents-once levels.Full xs' xs ys' ys these those = (
  sets-over SameIdent xs xs' ys ys' (these.1, these.0) (those.1, those.0),
  sets-over SameIdent xs' xs ys' ys these those,
)
idents-once levels.Definition xs' xs ys' ys these those = (λ same. same, λ same. same)
