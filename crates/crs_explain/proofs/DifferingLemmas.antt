-- The texts of parts that differ, one after the other.
use Rattle.std.proofs.Common.{◌≡◌, ◌⊎◌, inl, inr, ◌++◌, ◌∷◌, [], ℕ, List, refl, sym, subst, ap, ◌∙◌, append_assoc, append-nil}
use Rattle.crs_value.specs.inner.Prelude.{ParameterParts}
use Rattle.crs_value.specs.declared.values.level.Level.{Level}
use Rattle.crs_same.specs.inner.Prelude.{DifferenceParts, Parts, part, ◌⨾◌, further_text}
use Rattle.crs_same.specs.declared.content.Content.{Content}
use Rattle.crs_same.specs.declared.content.Content.TheVariants as content
use Rattle.crs_same.specs.declared.step.Step.{Step}
use Rattle.crs_canon.specs.Named.{ArePairedNames}
use Rattle.crs_explain.specs.inner.Appended.{AppendsTexts}
use Rattle.crs_explain.specs.Differing.{AreTextsOf, AreTextsBehind, AreTextsOfNames, AreTextsOfOthers, AreTextsOfParts, AreTextsOfSet, AreTextsAt, AreTextsOfOne, PartTexts}

-- some more texts in front of others
pub more : (Are : List PartTexts → Type 0) (these rest old begun new : List PartTexts) → new ≡ begun ++ these →
    ((texts : List PartTexts) × Are texts × (begun ++ (these ++ rest) ≡ old ++ texts)) →
    (texts : List PartTexts) × Are texts × (new ++ rest ≡ old ++ texts)
more Are these rest old begun new e (texts, are, same) =
    (texts, are, ap (λ z. z ++ rest) e ∙ append_assoc begun these rest ∙ same)

-- ---- the texts of a part

-- no set of parameters
abbrev pub NotSet : Content → Type 0
NotSet (content.Parameters xs ys) = ⊥
NotSet value = Unit {0}

-- of what isn't two sets of parameters
pub one-of : (level : Level) (path : List ℕ) (first second : Content) (texts : List PartTexts) → NotSet first ⊎ NotSet second →
    AreTextsOfOne level path first second texts → AreTextsOf level path first second texts
one-of level path (content.Parameters xs ys) (content.Parameters zs ws) texts (inl other) is = absurd other
one-of level path (content.Parameters xs ys) (content.Parameters zs ws) texts (inr other) is = absurd other
one-of level path (content.Parameters xs ys) second texts other is = is
one-of level path first second texts other is = is

pub appends-one : (level : Level) (path : List ℕ) (first second : Content) (old new : List PartTexts) → NotSet first ⊎ NotSet second →
    AppendsTexts (AreTextsOfOne level path first second) old new → AppendsTexts (AreTextsOf level path first second) old new
appends-one level path first second old new other (texts, is, e) = (texts, one-of level path first second texts other is, e)

pub no-set : (value : Content) → ((xs ys : List ParameterParts) → value ≡ content.Parameters xs ys → ⊥) → NotSet value
no-set (content.Parameters xs ys) other = other xs ys refl
no-set value other = tt

-- ---- the parts of a parameter

module _ (level : Level) (front : List ℕ) where
  behind : (these others : List DifferenceParts) (texts more : List PartTexts) → AreTextsBehind level front these texts →
      AreTextsBehind level front others more → AreTextsBehind level front (these ++ others) (texts ++ more)
  behind [] others texts more e are = subst (AreTextsBehind level front others) (sym (ap (λ t. t ++ more) e)) are
  behind (d ∷ these) others texts more (one, rest, e, is, are) too =
      (one, rest ++ more, ap (λ t. t ++ more) e, is, behind these others rest more are too)

  -- some parts, and then others
  pub both : (these others : Parts) (old between new : List PartTexts) → AppendsTexts (AreTextsOfParts level front these) old between →
      AppendsTexts (AreTextsOfParts level front others) between new → AppendsTexts (AreTextsOfParts level front (these ⨾ others)) old new
  both these others old between new (texts, (found, differ, are), e) (more, (further, differ_too, are_too), f) = (
    texts ++ more,
    (found ++ further, (found, further, refl, differ, differ_too), behind found further texts more are are_too),
    f ∙ ap (λ z. z ++ more) e ∙ append_assoc old texts more,
  )

  -- a part that differs
  pub told : (path : List Step) (Same : Type 0) (first second : Content) (old new : List PartTexts) (at : List ℕ) (one : PartTexts) → ¬ Same →
      at ≡ front ++ further_text path → AreTextsAt level at first second one → new ≡ old ++ one ∷ [] →
      AppendsTexts (AreTextsOfParts level front (part path Same first second)) old new
  told path Same first second old new at one differs here is e = (
    one ∷ [],
    (
      record { path = path; first = first; second = second } ∷ [],
      (differs, refl, refl),
      (one, [], refl, subst (λ p. AreTextsAt level p first second one) here is, refl),
    ),
    e,
  )

  -- the part at the front itself, which differs
  pub told-here : (Same : Type 0) (first second : Content) (old new : List PartTexts) → ¬ Same →
      AppendsTexts (AreTextsOfOne level front first second) old new →
      AppendsTexts (AreTextsOfParts level front (part [] Same first second)) old new
  told-here Same first second old new differs (texts, (one, is, are), e) =
      told [] Same first second old new front one differs (sym (append-nil front)) are (e ∙ ap (λ texts. old ++ texts) is)

-- ---- a set of parameters

pub set : (level : Level) (path : List ℕ) (xs ys : List ParameterParts) (names : List (List ℕ)) (old between new : List PartTexts) →
    ArePairedNames xs ys names → AppendsTexts (AreTextsOfNames level path xs ys names) old between →
    AppendsTexts (AreTextsOfOthers level path xs ys) between new → AppendsTexts (AreTextsOfSet level path xs ys) old new
set level path xs ys names old between new are_names (these, told, e) (rest, left, f) = (
  these ++ rest,
  (names, these, rest, are_names, told, left, refl),
  f ∙ ap (λ z. z ++ rest) e ∙ append_assoc old these rest,
)
