-- What is written for two texts, put together from what was found out about each.
use Rattle.std.proofs.Common.{◌≡◌, ◌∙◌, ◌⊎◌, ◌++◌, ◌∷◌, [], ℕ, List, Option, Some, None, Result, Ok, Err, MatchOption, MatchResult, ap, if◌then◌else◌, inl, inr, map, refl, subst, sym, true}
use Rattle.std.specs.Option.{option_map}
use Rattle.crs_value.specs.declared.values.crs.Crs.{Crs}
use Rattle.crs_value.specs.declared.values.level.Level.{Level}
use Rattle.crs_same.specs.SameCrs.{SameCrs}
use Rattle.crs_writer.specs.inner.Prelude.{CanonicalText}
use Rattle.crs_value.specs.Sound.{Each}
use Rattle.crs_explain.specs.Differing.{PartTexts, has_part, part_of, texts_exchanged}
use Rattle.crs_explain.specs.InOrder.{AreOrderedTexts}
use Rattle.crs_desk.specs.ExplainOutput.{TellsWhetherSame}
use Rattle.crs_desk.specs.RulesOutput.{ArePartsThatDiffer, IsPairOf, Refusals, Written, marked, status_of, texts_in, told_parts, turned, with_mark}
use Rattle.crs_desk.specs.declared.runs.manner.Manner.{Manner}
use Rattle.crs_desk.specs.declared.runs.manner.Manner.TheVariants as manner

-- after a first text for which this is written
pub second-written : {O : Type 0} (found : Result (CanonicalText × CanonicalText) O) (Is : Written)
    (one : CanonicalText) (first second : List ℕ) (First Second : O → Type 0) → Is first one.bytes
    → MatchResult found (λ both. (both.0 ≡ one) × Is second both.1.bytes) Second
    → MatchResult found (λ both. Is first both.0.bytes × Is second both.1.bytes)
    (λ output. First output ⊎ ((a : List ℕ) × Is first a × Second output))
second-written (Ok both) Is one first second First Second is (same, other) =
    (subst (λ (f : CanonicalText). Is first f.bytes) (sym same) is, other)
second-written (Err output) Is one first second First Second is refused = inr (one.bytes, is, refused)

-- both are written, and what is written for these is known
pub pair-written : (Is : Written) (Refused : Refusals) (Compared : List ℕ → List ℕ → List ℕ → ℕ → Type 0)
    (first second : List ℕ) (a b : CanonicalText) (bytes others written : List ℕ) (status : ℕ)
    → Is first a.bytes × Is second b.bytes → bytes ≡ a.bytes → others ≡ b.bytes
    → Compared bytes others written status → IsPairOf Is Refused Compared first second written status
unfolding IsPairOf
pair-written Is Refused Compared first second a b bytes others written status (is, other) same alike compared =
    inr (bytes, others, subst (Is first) (sym same) is, subst (Is second) (sym alike) other, compared)

-- the parts that were found differ
pub parts-found : {V : Type 0} (items : V → List PartTexts) (words : List (List ℕ)) (level : Level) (a b : Crs) (found : Option V)
    → MatchOption found (SameCrs level a b) (λ texts. (¬ SameCrs level a b) × AreOrderedTexts words level a b (items texts))
    → ArePartsThatDiffer words level a b (option_map items found)
parts-found items words level a b None same = same
parts-found items words level a b (Some texts) differ = differ

-- ---- laws of what is told under rules

pub told-alone : (how : Manner) (words : List (List ℕ)) (level : Level) (a b : Crs) (found : Option (List PartTexts))
    → ArePartsThatDiffer words level a b found → TellsWhetherSame how words level a b (told_parts how found) (status_of found)
told-alone how words level a b None same = inl (same, record { line = refl; is_status = refl })
told-alone manner.Lines words level a b (Some texts) (other, are) = inr (other, (texts, are, refl), refl)
told-alone manner.Objects words level a b (Some texts) (other, are) = inr (other, (texts, are, refl), refl)

-- each part still differs
none-marked : (how : Manner) (after before : List PartTexts) → Each (λ one. has_part after (part_of one.path) ≡ true) before
    → marked how after before ≡ []
none-marked how after [] each = refl
none-marked how after (one ∷ before) (here, each) =
    ap (λ has. (if has then [] else with_mark how one) ++ marked how after before) here ∙ none-marked how after before each

pub nothing-marked : (how : Manner) (words : List (List ℕ)) (level : Level) (a b : Crs)
    → ((these others : List PartTexts) → AreOrderedTexts words level a b these → AreOrderedTexts words level a b others
    → Each (λ one. has_part others (part_of one.path) ≡ true) these)
    → (before after : Option (List PartTexts)) → ArePartsThatDiffer words level a b before → ArePartsThatDiffer words level a b after
    → marked how (texts_in after) (texts_in before) ≡ []
nothing-marked how words level a b law None after is were = refl
nothing-marked how words level a b law (Some texts) None (differ, are) same = absurd (differ same)
nothing-marked how words level a b law (Some texts) (Some others) (differ, are) (differ_too, were) =
    none-marked how others texts (law texts others are were)

pub parts-turned : (words : List (List ℕ)) (level : Level) (a b : Crs) → (SameCrs level a b → SameCrs level b a)
    → (SameCrs level b a → SameCrs level a b)
    → ((texts : List PartTexts) → AreOrderedTexts words level a b texts → AreOrderedTexts words level b a (map texts_exchanged texts))
    → (found : Option (List PartTexts)) → ArePartsThatDiffer words level a b found → ArePartsThatDiffer words level b a (turned found)
parts-turned words level a b there back law None same = there same
parts-turned words level a b there back law (Some texts) (differ, are) = (λ same. differ (back same), law texts are)

pub same-status : (found : Option (List PartTexts)) → status_of found ≡ status_of (turned found)
same-status None = refl
same-status (Some texts) = refl
