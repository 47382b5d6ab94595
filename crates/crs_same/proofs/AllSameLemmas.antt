-- Whether all parts of two values are the same, from what a walk over them finds.
use Rattle.std.proofs.Common.{◌≡◌, ◌↔◌, inl, inr, Option, Some, None, List, [], Bool, IsTrue, refl, subst}
use Rattle.crs_value.specs.declared.values.level.Level.{Level}
use Rattle.crs_same.specs.declared.found.Found.{Found}
use Rattle.crs_same.specs.declared.found.Found.TheVariants as found
use Rattle.crs_same.specs.declared.step.Step.{Step}
use Rattle.crs_same.specs.Parts.{Parts, PartsOf, none, part, ◌⨾◌, within, AllSame, AreSame, First}
use Rattle.crs_same.specs.inner.Walked.{Walks, Walked}

-- those that are within something are within one thing
abbrev pub IsSettled : Parts → Type 0
IsSettled none = Unit {0}
IsSettled (part path Same first second) = Unit {0}
IsSettled (these ⨾ others) = IsSettled these × IsSettled others
IsSettled (within {X} Is parts) = ((x y : X) → Is x → Is y → x ≡ y) × ((x : X) → Is x → IsSettled (parts x))

pub none-found : (parts : Parts) → First parts None → AllSame parts
none-found none first = tt
none-found (part path Same first second) same = same
none-found (these ⨾ others) first = (none-found these first.0, none-found others first.1)
none-found (within Is parts) (x, is, first) = (x, is, none-found (parts x) first)

pub some-found : (parts : Parts) → IsSettled parts → (path : List Step) → First parts (Some path) → AllSame parts → ⊥
some-found none settled path first same = absurd (cc)
some-found (part at Same one other) settled path first same = first.0 same
some-found (these ⨾ others) settled path (inl first) same = some-found these settled.0 path first same.0
some-found (these ⨾ others) settled path (inr first) same = some-found others settled.1 path first.1 same.1
some-found (within Is parts) settled path (x, is, first) (y, is-y, same) =
    some-found (parts x) (settled.1 x is) path first (subst (λ z. AllSame (parts z)) (settled.0 y x is-y is) same)

pub all-first : (parts : Parts) → AllSame parts → First parts None
all-first none same = refl
all-first (part path Same first second) same = same
all-first (these ⨾ others) same = (all-first these same.0, all-first others same.1)
all-first (within Is parts) (x, is, same) = (x, is, all-first (parts x) same)

-- whether a walk for the first part that differs found none
found-none : {parts : Parts} {old new : Found} {result : Bool} → IsSettled parts → old ≡ found.First None → Walked parts old new →
    ((path : Option (List Step)) → new ≡ found.First path → (IsTrue result ↔ (path ≡ None))) → (IsTrue result ↔ AllSame parts)
found-none {parts} {old} {new} {result} settled begins walked is =
    let (path, was, first) = subst (λ f. Walks parts f new) begins walked.walks in decided path first (is path was)
  where
    never : (path : List Step) → Some path ≡ None → ⊥
    never path e = cc

    decided : (path : Option (List Step)) → First parts path → (IsTrue result ↔ (path ≡ None)) → (IsTrue result ↔ AllSame parts)
    decided None first is = (λ true_is. none-found parts first, λ same. is.1 refl)
    decided (Some path) first is = (
      λ true_is. absurd (never path (is.0 true_is)),
      λ same. absurd (some-found parts settled path first same),
    )

-- whether such a walk over the parts of two values found none
pub walked-same : {V : Type 0} (parts : PartsOf V) (level : Level) (a b : V) → IsSettled (parts [] level a b) →
    {at : List Step} {its : Level} {old new : Found} {result : Bool} → at ≡ [] → its ≡ level → old ≡ found.First None →
    Walked (parts at its a b) old new → ((path : Option (List Step)) → new ≡ found.First path → (IsTrue result ↔ (path ≡ None))) →
    (IsTrue result ↔ AreSame parts level a b)
unfolding AreSame
walked-same parts level a b settled {at} {its} {old} {new} starts is_level begins walked is =
    found-none settled begins
    (subst (λ l. Walked (parts [] l a b) old new) is_level (subst (λ path. Walked (parts path its a b) old new) starts walked)) is
