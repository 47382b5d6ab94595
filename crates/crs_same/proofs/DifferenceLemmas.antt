-- The first of the parts that differ is the first part that differs, and there is one list of them.
use Rattle.std.proofs.Common.{◌≡◌, ◌∙◌, ◌++◌, ◌⊎◌, inl, inr, Option, Some, None, List, [], ◌∷◌, refl, sym, subst, ap}
use Rattle.crs_shape.specs.inner.Prelude.{asked_kind}
use Rattle.crs_value.specs.declared.values.level.Level.{Level}
use Rattle.crs_value.specs.inner.Prelude.{AxisParts, SystemParts}
use Rattle.crs_same.specs.declared.step.Step.{Step}
use Rattle.crs_same.specs.declared.step.Step.TheVariants as step
use Rattle.crs_same.specs.Parts.{◌▸◌, Parts, DifferenceParts, none, part, ◌⨾◌, within, First, Differences, parts_of_axis}
use Rattle.crs_same.proofs.AgreementLemmas.{one-asked}
use Rattle.crs_same.proofs.AllSameLemmas.{IsSettled}

-- the path of the first of some parts, if there is one
abbrev head : List DifferenceParts → Option (List Step)
head [] = None
head (one ∷ further) = Some one.path

pub first-difference : (parts : Parts) (found : List DifferenceParts) → Differences parts found → First parts (head found)
first-difference none found is = ap head is
first-difference (part path Same first second) [] same = same
first-difference (part path Same first second) (one ∷ further) (differs, is, last) = (differs, ap (λ d. d.path) is)
first-difference (these ⨾ others) found (front, back, is, here, there) =
    subst (λ p. First (these ⨾ others) (head p)) (sym is) (joined front back (first-difference these front here) (first-difference others back there))
  where
    joined : (front back : List DifferenceParts) → First these (head front) → First others (head back) → First (these ⨾ others) (head (front ++ back))
    joined [] [] here there = (here, there)
    joined [] (one ∷ back) here there = inr (here, there)
    joined (one ∷ front) back here there = inl here
first-difference (within Is parts) found (x, is, here) = (x, is, first-difference (parts x) found here)

pub one-list : (parts : Parts) → IsSettled parts → (found other : List DifferenceParts) → Differences parts found →
    Differences parts other → found ≡ other
one-list none settled found other is too = is ∙ sym too
one-list (part path Same first second) settled [] [] is too = refl
one-list (part path Same first second) settled [] (one ∷ further) is (differs, too, last) = absurd (differs is)
one-list (part path Same first second) settled (one ∷ further) [] (differs, is, last) too = absurd (differs too)
one-list (part path Same first second) settled (one ∷ further) (other ∷ more) (differs, is, last) (differ, too, end) =
    λ i. (is ∙ sym too) i ∷ (last ∙ sym end) i
one-list (these ⨾ others) settled found other (front, back, is, here, there) (start, rest, too, near, far) =
    let fronts = one-list these settled.0 front start here near in
    let backs = one-list others settled.1 back rest there far in
    is ∙ (λ i. fronts i ++ backs i) ∙ sym too
one-list (within Is parts) settled found other (x, is, here) (y, too, there) =
    one-list (parts x) (settled.1 x is) found other here (subst (λ z. Differences (parts z) other) (settled.0 y x too is) there)

-- ---- units

pub asked-alike : (at : List Step) (level : Level) (a b : SystemParts) (x y : AxisParts) → a.system_type ≡ b.system_type →
    (found : Option (List Step)) → First (parts_of_axis at level a b x y) found →
    (asked_kind a.system_type x.direction ≡ asked_kind b.system_type y.direction)
    ⊎ (found ≡ Some (at ▸ step.Name)) ⊎ (found ≡ Some (at ▸ step.Direction))
unfolding parts_of_axis
asked-alike at level a b x y type None first = inl (one-asked a b x y type first.1.0)
asked-alike at level a b x y type (Some path) (inl name) = inr (inl (ap Some name.1))
asked-alike at level a b x y type (Some path) (inr (same, inl direction)) = inr (inr (ap Some direction.1))
asked-alike at level a b x y type (Some path) (inr (same, inr further)) = inl (one-asked a b x y type further.0)
