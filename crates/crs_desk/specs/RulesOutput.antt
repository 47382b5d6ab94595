-- What commands write under rules, and their status.
use Rattle.std.specs.Prelude.{◌≡◌, ◌++◌, ◌∷◌, ◌⊎◌, [], ℕ, List, Option, Some, None, codes, if◌then◌else◌, map}
use Rattle.std.specs.List.{flat_map}
use Rattle.std.specs.Option.{option_map}
use Rattle.crs_value.specs.declared.values.crs.Crs.{Crs}
use Rattle.crs_value.specs.declared.values.level.Level.{Level}
use Rattle.crs_same.specs.SameCrs.{SameCrs}
use Rattle.crs_writer.specs.Canonical.{IsCanonicalOf}
use Rattle.crs_rules.specs.FormOrder.{IsInFormOrder}
use Rattle.crs_rules.specs.Rewritten.{IsForm, renamed}
use Rattle.crs_rules.specs.Rules.{RulesParts, meaning}
use Rattle.crs_explain.specs.Differing.{PartTexts, difference_line, has_part, part_of, texts_exchanged}
use Rattle.crs_explain.specs.InOrder.{AreOrderedTexts}
use Rattle.crs_explain.specs.Json.{difference_members, difference_object}
use Rattle.crs_desk.specs.ExplainOutput.{TellsRefusalOf, same_told}
use Rattle.crs_desk.specs.Output.{IsLine, WritesRefusal, WritesRefusalOf}
use Rattle.crs_desk.specs.SameOutput.{IsSameOutput}
use Rattle.crs_desk.specs.declared.runs.manner.Manner.{Manner}
use Rattle.crs_desk.specs.declared.runs.manner.Manner.TheVariants as manner

-- what `canon` writes for a text under rules: its form at this level, with status 0, or its refusal
unfoldable pub IsFormOutput : RulesParts → Level → List ℕ → List ℕ → ℕ → Type 0
IsFormOutput rules level text written status =
    ((form : List ℕ) × IsForm rules level text form × IsLine form 0 written status)
    ⊎ WritesRefusal text written status

-- how a refusal is written: after the word for its text
abbrev pub Refusals : Type 1
Refusals = List ℕ → List ℕ → List ℕ → ℕ → Type 0

-- which bytes are written for a text before two are compared
abbrev pub Written : Type 1
Written = List ℕ → List ℕ → Type 0

-- what is written for the refusal of the first of two texts for which there are no such bytes
abbrev pub IsRefusedOf : Written → Refusals → List ℕ → List ℕ → List ℕ → ℕ → Type 0
IsRefusedOf Is Refused first second written status =
    Refused (codes "first ") first written status
    ⊎ ((a : List ℕ) × Is first a × Refused (codes "second ") second written status)

-- what is written for two texts: such a refusal, or what is written for those bytes
unfoldable pub IsPairOf : Written → Refusals → (List ℕ → List ℕ → List ℕ → ℕ → Type 0) → List ℕ →
    List ℕ → List ℕ → ℕ → Type 0
IsPairOf Is Refused Compared first second written status =
    IsRefusedOf Is Refused first second written status
    ⊎ ((a : List ℕ) × (b : List ℕ) × Is first a × Is second b × Compared a b written status)

-- what `same` writes for two texts under rules: what it writes for their forms without rules
abbrev pub IsSameUnderOutput : Manner → RulesParts → Level → List ℕ → List ℕ → List ℕ → ℕ → Type 0
IsSameUnderOutput how rules level = IsPairOf (IsForm rules level) (WritesRefusalOf how) (IsSameOutput how level)

-- ---- what `explain` writes for two texts

-- the texts of the parts in which two CRSs differ, in the order of some words; none where they are the same
abbrev pub ArePartsThatDiffer : List (List ℕ) → Level → Crs → Crs → Option (List PartTexts) → Type 0
ArePartsThatDiffer words level a b None = SameCrs level a b
ArePartsThatDiffer words level a b (Some texts) = (¬ SameCrs level a b) × AreOrderedTexts words level a b texts

-- all of them
abbrev pub texts_in : Option (List PartTexts) → List PartTexts
texts_in None = []
texts_in (Some texts) = texts

-- how they are written: by `same`, in lines or as objects
abbrev pub told_parts : Manner → Option (List PartTexts) → List ℕ
told_parts how None = same_told how ++ 10 ∷ []
told_parts manner.Lines (Some texts) = flat_map difference_line texts
told_parts manner.Objects (Some texts) = flat_map difference_object texts

-- the status
abbrev pub status_of : Option (List PartTexts) → ℕ
status_of None = 0
status_of (Some texts) = 1

-- what is written of a part with the mark; of an object it is a first member
abbrev pub with_mark : Manner → PartTexts → List ℕ
with_mark manner.Lines part = codes "the same by the rules: " ++ difference_line part
with_mark manner.Objects part = codes "{\"same_by_rules\":true," ++ difference_members part

-- nothing where the part still differs
abbrev pub marked_one : Manner → List PartTexts → PartTexts → List ℕ
marked_one how after part = if has_part after (part_of part.path) then [] else with_mark how part

-- the parts that differ before and not after, each with the mark
abbrev pub marked : Manner → List PartTexts → List PartTexts → List ℕ
marked how after before = flat_map (marked_one how after) before

-- what is written of parts that differ before and of those that differ after: these, and then the others with the mark
abbrev pub told_under : Manner → (before after : Option (List PartTexts)) → List ℕ
told_under how before after = told_parts how after ++ marked how (texts_in after) (texts_in before)

-- the same parts, each with its values exchanged
abbrev pub turned : Option (List PartTexts) → Option (List PartTexts)
turned = option_map (map texts_exchanged)

-- what is written of two CRSs under rules: the parts in which they differ as they are rewritten, and then
-- those in which they differ before and not after
abbrev pub TellsUnder : Manner → List (List ℕ) → RulesParts → Level → Crs → Crs → List ℕ → ℕ → Type 0
TellsUnder how words rules level a b written status =
    (before : Option (List PartTexts)) × (after : Option (List PartTexts))
    × ArePartsThatDiffer words level a b before
    × ArePartsThatDiffer words level (renamed (meaning rules) a) (renamed (meaning rules) b) after
    × (written ≡ told_under how before after)
    × (status ≡ status_of after)

-- of a CRS and the one that a canonical text spells, its axes in the order of the form
abbrev pub IsExplainedBehind : Manner → List (List ℕ) → RulesParts → Level → Crs → List ℕ → List ℕ → ℕ → Type 0
IsExplainedBehind how words rules level first b written status =
    (second : Crs) × IsInFormOrder rules b second × TellsUnder how words rules level first second written status

-- of two that canonical texts spell
abbrev pub IsExplainedUnder : Manner → List (List ℕ) → RulesParts → Level → List ℕ → List ℕ → List ℕ → ℕ → Type 0
IsExplainedUnder how words rules level a b written status =
    (first : Crs) × IsInFormOrder rules a first × IsExplainedBehind how words rules level first b written status

-- what `explain` writes for two texts under rules
abbrev pub IsExplainUnderOutput : Manner → List (List ℕ) → RulesParts → Level → List ℕ → List ℕ → List ℕ → ℕ → Type 0
IsExplainUnderOutput how words rules level =
    IsPairOf (IsCanonicalOf level) (TellsRefusalOf how) (IsExplainedUnder how words rules level)
