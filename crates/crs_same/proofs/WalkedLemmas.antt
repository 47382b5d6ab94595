-- What a walk over parts finds, from what it finds over each.
use Rattle.std.proofs.Common.{◌≡◌, ℕ, suc, ◌+◌, arith, ◌++◌, ◌↔◌, inl, inr, Option, Some, None, List, [], ◌∷◌, refl, sym, subst, ap, ◌∙◌, append_assoc, append-nil}
use Rattle.crs_value.specs.declared.values.level.Level.{Level}
use Rattle.crs_value.specs.declared.values.level.Level.TheVariants as levels
use Rattle.crs_value.specs.inner.Prelude.{SystemParts}
use Rattle.crs_same.specs.declared.content.Content.{Content}
use Rattle.crs_same.specs.declared.found.Found.{Found}
use Rattle.crs_same.specs.declared.found.Found.TheVariants as found
use Rattle.crs_same.specs.declared.step.Step.{Step}
use Rattle.crs_same.specs.declared.step.Step.TheVariants as step
use Rattle.crs_same.specs.Parts.{◌▸◌, Parts, none, part, ◌⨾◌, within, First, Differences, parts_of_given, or_greenwich, parts_at, parts_of_axes}
use Rattle.crs_same.specs.inner.Prelude.{SameIdents, SameValue}
use Rattle.crs_same.specs.inner.Walked.{IsDone, IsRefused, Walks, Walked}

-- over parts of which none differs
unchanged : {parts : Parts} {old : Found} → First parts None → Differences parts [] → Walked parts old old
unchanged {old = found.First None} first all = record { walks = (None, refl, first) }
unchanged {old = found.First (Some path)} first all = record { walks = refl }
unchanged {old = found.All before} first all = record { walks = inr ([], ap found.All (sym (append-nil before)), all) }
unchanged {old = found.Refused error} first all = record { walks = refl }

pub nothing : {old : Found} → Walked none old old
nothing = unchanged refl refl

pub same : {path : List Step} {Same : Type 0} {first second : Content} {old : Found} → Same → Walked (part path Same first second) old old
same is = unchanged is is

-- where nothing more is looked for
pub done : {parts : Parts} {old : Found} → IsDone old → Walked parts old old
done {old = found.First None} is = absurd is
done {old = found.First (Some path)} is = record { walks = refl }
done {old = found.All before} is = absurd is
done {old = found.Refused error} is = record { walks = refl }

-- over one part that differs, from what is found over one that is never the same
walks-differing : (path : List Step) (Same : Type 0) (first second : Content) (old new : Found) → ¬ Same →
    Walks (part path ⊥ first second) old new → Walks (part path Same first second) old new
walks-differing path Same first second (found.First None) new differs (None, was, same) = absurd same
walks-differing path Same first second (found.First None) new differs (Some other, was, (never, is)) = (Some other, was, (differs, is))
walks-differing path Same first second (found.First (Some before)) new differs walked = walked
walks-differing path Same first second (found.All before) new differs (inl refused) = inl refused
walks-differing path Same first second (found.All before) new differs (inr ([], was, same)) = absurd same
walks-differing path Same first second (found.All before) new differs (inr (one ∷ further, was, (never, is, last))) =
    inr (one ∷ further, was, (differs, is, last))
walks-differing path Same first second (found.Refused error) new differs walked = walked

pub differing : {path : List Step} {Same : Type 0} {first second : Content} {old new : Found} → ¬ Same →
    Walked (part path ⊥ first second) old new → Walked (part path Same first second) old new
differing differs walked = record { walks = walks-differing _ _ _ _ _ _ differs walked.walks }

-- over these parts and others
walks-both : (these others : Parts) (old between new : Found) → Walks these old between → Walks others between new →
    Walks (these ⨾ others) old new
walks-both these others (found.First None) between new (None, is, first) second =
    let (path, was, rest) = subst (λ f. Walks others f new) is second in (path, was, joined path rest)
  where
    joined : (path : Option (List Step)) → First others path → First (these ⨾ others) path
    joined None rest = (first, rest)
    joined (Some path) rest = inr (first, rest)
walks-both these others (found.First None) between new (Some path, is, first) second =
    (Some path, subst (λ f. Walks others f new) is second, inl first)
walks-both these others (found.First (Some path)) between new first second = subst (λ f. Walks others f new) first second
walks-both these others (found.All paths) between new (inl refused) second = inl (still between refused second)
  where
    still : (between : Found) → IsRefused between → Walks others between new → IsRefused new
    still (found.Refused error) refused second = subst IsRefused (sym second) tt
    still (found.First path) refused second = absurd refused
    still (found.All more) refused second = absurd refused
walks-both these others (found.All paths) between new (inr (front, is, first)) second = joined (subst (λ f. Walks others f new) is second)
  where
    joined : Walks others (found.All (paths ++ front)) new → Walks (these ⨾ others) (found.All paths) new
    joined (inl refused) = inl refused
    joined (inr (back, was, rest)) =
        inr (front ++ back, was ∙ ap found.All (append_assoc paths front back), (front, back, refl, first, rest))
walks-both these others (found.Refused error) between new first second = subst (λ f. Walks others f new) first second

-- ---- for what a function walks over in turn

pub via : {these others : Parts} {old new : Found} (between : Found) → Walked these old between → Walked others between new → Walked (these ⨾ others) old new
via {these} {others} {old} {new} between first second = record { walks = walks-both these others old between new first.walks second.walks }

-- over the parts that are within the one
walks-within : {X : Type 0} (Is : X → Type 0) (parts : X → Parts) (x : X) (old new : Found) → Is x → Walks (parts x) old new →
    Walks (within Is parts) old new
walks-within Is parts x (found.First None) new is (path, was, first) = (path, was, (x, is, first))
walks-within Is parts x (found.First (Some path)) new is walked = walked
walks-within Is parts x (found.All paths) new is (inl refused) = inl refused
walks-within Is parts x (found.All paths) new is (inr (further, was, rest)) = inr (further, was, (x, is, rest))
walks-within Is parts x (found.Refused error) new is walked = walked

pub inside : {X : Type 0} {Is : X → Type 0} {parts : X → Parts} {old new : Found} (x : X) → Is x → Walked (parts x) old new →
    Walked (within Is parts) old new
inside {X} {Is} {parts} {old} {new} x is walked = record { walks = walks-within Is parts x old new is walked.walks }

-- over two prime meridians that are missing
no-idents : (level : Level) → SameIdents level [] []
no-idents levels.Full = (tt, tt)
no-idents levels.Definition = (tt, tt)

pub greenwiches : (at : List Step) (level : Level) {old : Found} → Walked (parts_of_given at level (or_greenwich None) (or_greenwich None)) old old
unfolding SameValue
greenwiches at level {old} = via old (same refl) (via old (same (refl, inl refl)) (via old (same tt) (same (no-idents level))))

-- over the axes at one position more
pub more-axes : (at : List Step) (level : Level) (a b : SystemParts) (count : ℕ) {old between new : Found} →
    Walked (parts_of_axes at level a b count) old between → Walked (parts_at (at ▸ step.Axis (count + 1)) level a b (count + 1)) between new →
    Walked (parts_of_axes at level a b (count + 1)) old new
more-axes at level a b count {old} {between} {new} first second =
    subst (λ n. Walked (parts_of_axes at level a b n) old new) is
    (via between first (subst (λ n. Walked (parts_at (at ▸ step.Axis n) level a b n) between new) (sym is) second))
  where
    is : suc count ≡ count + 1
    is = omega arith

pub ruleset part_rules = (done, same, differing)

-- ---- what a walk for the first part that differs ends with

pub first-found : {parts : Parts} {old new : Found} {result : Option (List Step)} → old ≡ found.First None → Walked parts old new →
    ((path : Option (List Step)) → new ≡ found.First path → result ≡ path) → First parts result
first-found {parts} {old} {new} {result} begins walked ends =
    let (path, is, first) = subst (λ f. Walks parts f new) begins walked.walks in subst (λ p. First parts p) (sym (ends path is)) first

pub none-where-same : (parts : Parts) {Same : Type 0} (result : Option (List Step)) → First parts result → (First parts None → Same) →
    ((path : List Step) → First parts (Some path) → Same → ⊥) → ((result ≡ None) ↔ Same)
none-where-same parts None first of_none of_some = (λ is. of_none first, λ same. refl)
none-where-same parts (Some path) first of_none of_some = (λ is. absurd (cc), λ same. absurd (of_some path first same))
