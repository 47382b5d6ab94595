-- What holds of the path to the first part that differs, since it holds of the path to each part.
use Rattle.std.proofs.Common.{◌≤◌, ◌⊎◌, inl, inr, Some, List, [], ◌∷◌, length, refl, sym, subst, arith}
use Rattle.crs_value.specs.declared.values.crs.Crs.{Crs}
use Rattle.crs_value.specs.declared.values.crs.Crs.TheVariants as crs
use Rattle.crs_value.specs.declared.values.level.Level.{Level}
use Rattle.crs_value.specs.declared.values.level.Level.TheVariants as levels
use Rattle.crs_value.specs.Sound.{Each}
use Rattle.crs_same.specs.declared.content.Content.{Content}
use Rattle.crs_same.specs.declared.step.Step.{Step}
use Rattle.crs_same.specs.Definition.{IsOfDefinition}
use Rattle.crs_same.specs.Parts.{◌▸◌, Parts, none, part, ◌⨾◌, First, FirstInCrs}
use Rattle.crs_same.proofs.EachPartLemmas.{IsLeftOut, Spreads, SoundIn, crs-of}

-- what is found has the property
record Finds (P : List Step → Type 0) (parts : Parts) : Type 0 where
  some : (path : List Step) → First parts (Some path) → P path

nothing : {P : List Step → Type 0} → Finds P none
nothing = record { some = λ path f. absurd (cc) }

-- in the first place or in the second
both : {P : List Step → Type 0} (these others : Parts) → Finds P these → Finds P others → Finds P (these ⨾ others)
both {P} these others f g = record { some = found }
  where
    found : (path : List Step) → First (these ⨾ others) (Some path) → P path
    found path (inl h) = f.some path h
    found path (inr h) = g.some path h.1

-- `Is` holds of the path to each node, and `P` of that to each part that counts
first-in-crs : (level : Level) (Is P : List Step → Type 0) → ((at : List Step) (s : Step) → IsOfDefinition s → Is at → Is (at ▸ s)) →
    ((at : List Step) (s : Step) (Same : Type 0) (first second : Content) → IsOfDefinition s ⊎ IsLeftOut level Same → Is at →
    Finds P (part (at ▸ s) Same first second)) →
    (a b : Crs) → Is [] → (path : List Step) → FirstInCrs level a b (Some path) → P path
first-in-crs level Is P on each a b is = (crs-of rules a b (sound a) (sound b) is).some
  where
    rules : Spreads level (Finds P) Is (λ system. Unit {0})
    rules = record {
      nothing = nothing;
      both = both;
      on = on;
      each = each;
      placed = λ a b sound-a sound-b position parts all. record { some = λ path found. let (x, here, (y, there, first)) = found in (all x y).some path first };
    }

    sound : (a : Crs) → SoundIn (λ system. Unit {0}) a
    sound (crs.Compound a) = (tt, tt)
    sound a = tt

-- ---- a path has a step

some-step : (at : List Step) (s : Step) → 1 ≤ length (at ▸ s)
some-step [] s = omega arith
some-step (x ∷ at) s = omega arith

pub first-has-a-step : (level : Level) (a b : Crs) (path : List Step) → FirstInCrs level a b (Some path) → 1 ≤ length path
first-has-a-step level a b = first-in-crs level (λ at. Unit {0}) (λ path. 1 ≤ length path) (λ at s counts is. tt) each a b tt
  where
    each : (at : List Step) (s : Step) (Same : Type 0) (first second : Content) → IsOfDefinition s ⊎ IsLeftOut level Same → Unit {0} →
        Finds (λ path. 1 ≤ length path) (part (at ▸ s) Same first second)
    each at s Same first second counts is = record { some = λ path f. subst (λ p. 1 ≤ length p) (sym f.1) (some-step at s) }

-- ---- by definition, each step counts

on : (at : List Step) (s : Step) → IsOfDefinition s → Each IsOfDefinition at → Each IsOfDefinition (at ▸ s)
on [] s one all = (one, tt)
on (x ∷ at) s one all = (all.0, on at s one all.1)

pub first-of-definition : (a b : Crs) (path : List Step) → FirstInCrs levels.Definition a b (Some path) → Each IsOfDefinition path
first-of-definition a b = first-in-crs levels.Definition (λ at. Each IsOfDefinition at) (λ path. Each IsOfDefinition path) on each a b tt
  where
    each : (at : List Step) (s : Step) (Same : Type 0) (first second : Content) → IsOfDefinition s ⊎ IsLeftOut levels.Definition Same →
        Each IsOfDefinition at → Finds (λ path. Each IsOfDefinition path) (part (at ▸ s) Same first second)
    each at s Same first second (inl counts) all = record { some = λ path f. subst (λ p. Each IsOfDefinition p) (sym f.1) (on at s counts all) }
    each at s Same first second (inr same) all = record { some = λ path f. absurd (f.0 (same refl)) }
