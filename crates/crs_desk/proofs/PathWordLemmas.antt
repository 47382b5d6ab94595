-- Words of paths, and texts that commas part.
use Rattle.std.proofs.Common.{◌≡◌, ◌≢◌, ◌↔◌, ◌<◌, ◌++◌, ◌∷◌, ◌==◌, [], ℕ, suc, List, Bool, true, false, length, map, arith, ap, refl, sym, subst, ◌∙◌, append-nil, append_assoc, get_or}
use Rattle.std.specs.List.{list_any}
use Rattle.std.specs.Str.{bytes_eq}
use Rattle.std.proofs.lemmas.Bool.{eqb-true, false_from_ne_true}
use Rattle.std.proofs.lemmas.Slice.Eq.{bytes_eq-Decides}
use Rattle.clap.specs.Words.{Text}
use Rattle.crs_value.specs.Sound.{Each}
use Rattle.crs_same.specs.declared.step.Step.{Step}
use Rattle.crs_same.specs.declared.step.Step.TheVariants as step
use Rattle.crs_desk.specs.declared.line.job.JobFault.{JobFault}
use Rattle.crs_desk.specs.declared.line.job.JobFault.TheVariants as fault
use Rattle.crs_desk.specs.inner.PartFault.{IsPartFault}
use Rattle.crs_desk.specs.Requests.{IsInPaths, parted, word_meant, word_of, words_meant}

-- ---- words

-- the steps in the order of their words
abbrev steps : List Step
steps =
    step.Accuracy ∷ step.Anchor ∷ step.AnchorEpoch ∷ step.Axis 1 ∷ step.Base ∷ step.Conversion ∷ step.Datum
    ∷ step.Dimension ∷ step.Direction ∷ step.Dynamic ∷ step.Ellipsoid ∷ step.Epoch ∷ step.Flattening ∷ step.Geoid
    ∷ step.Horizontal ∷ step.Id ∷ step.Kind ∷ step.Longitude ∷ step.Members ∷ step.Meridian ∷ step.Method ∷ step.Model
    ∷ step.Name ∷ step.Parameters ∷ step.Remark ∷ step.SemiMajor ∷ step.System ∷ step.SystemType ∷ step.Unit ∷ step.Usage
    ∷ step.Vertical ∷ []

each_step : (s : Step) → list_any (λ known. bytes_eq known (word_of s)) (map word_of steps) ≡ true
each_step s = grind arith

of_step : (word : Text) (of : List Step) → list_any (λ known. bytes_eq known word) (map word_of of) ≡ true → IsInPaths word
of_step word [] some = cc
of_step word (s ∷ of) some = go (bytes_eq (word_of s) word) refl (of_step word of)
  where
    go : (is : Bool) → bytes_eq (word_of s) word ≡ is
        → (list_any (λ known. bytes_eq known word) (map word_of of) ≡ true → IsInPaths word) → IsInPaths word
    go true is rest = (s, (bytes_eq-Decides (word_of s) word).0 is)
    go false is rest = rest (grind arith)

-- the words of all steps are those that are in paths
pub in_paths : (word : Text) (result : Bool) → result ≡ list_any (λ known. bytes_eq known word) (map word_of steps)
    → (result ≡ true) ↔ IsInPaths word
in_paths word result is = (
  λ some. of_step word steps (sym is ∙ some),
  λ (s, same). is ∙ subst (λ w. list_any (λ known. bytes_eq known w) (map word_of steps) ≡ true) same (each_step s),
)

-- ---- texts that commas part

-- a text without a comma
abbrev Lacks : Text → Type 0
Lacks text = (i : ℕ) → i < length text → get_or text i 0 ≢ 44

pub words_at : (text word left : Text) → (text ≡ word ++ 44 ∷ left) × Lacks word → words_meant text ≡ word_meant word ∷ words_meant left
words_at text word left (are, lacks) = ap words_meant are ∙ ap (map word_meant) (go word lacks)
  where
    go : (word : Text) → Lacks word → parted (word ++ 44 ∷ left) ≡ word ∷ parted left
    go [] lacks = refl
    go (b ∷ word) lacks =
        rw (false_from_ne_true (b == 44) (λ is. lacks 0 (omega arith) (eqb-true b 44 is)), go word (λ i l. lacks (suc i) (omega arith))) refl

pub one_word : (text : Text) → Lacks text → words_meant text ≡ word_meant text ∷ []
one_word text lacks = ap (map word_meant) (go text lacks)
  where
    go : (text : Text) → Lacks text → parted text ≡ text ∷ []
    go [] lacks = refl
    go (b ∷ text) lacks =
        rw (false_from_ne_true (b == 44) (λ is. lacks 0 (omega arith) (eqb-true b 44 is)), go text (λ i l. lacks (suc i) (omega arith))) refl

-- ---- words that are added one by one

front_of : (xs ys : List Text) → Each IsInPaths (xs ++ ys) → Each IsInPaths xs
front_of [] ys each = tt
front_of (x ∷ xs) ys each = (each.0, front_of xs ys each.1)

back_of : (xs ys : List Text) → Each IsInPaths (xs ++ ys) → Each IsInPaths ys
back_of [] ys each = each
back_of (x ∷ xs) ys each = back_of xs ys each.1

joined : (xs ys : List Text) → Each IsInPaths xs → Each IsInPaths ys → Each IsInPaths (xs ++ ys)
joined [] ys front back = back
joined (x ∷ xs) ys front back = (front.0, joined xs ys front.1 back)

faulty_front : (xs ys : List Text) (f : JobFault) → IsPartFault xs f → IsPartFault (xs ++ ys) f
faulty_front xs ys fault.Level is = is
faulty_front xs ys fault.Part is = λ each. is (front_of xs ys each)
faulty_front xs ys fault.Memory is = tt

faulty_back : (xs ys : List Text) (f : JobFault) → IsPartFault ys f → IsPartFault (xs ++ ys) f
faulty_back xs ys fault.Level is = is
faulty_back xs ys fault.Part is = λ each. is (back_of xs ys each)
faulty_back xs ys fault.Memory is = tt

-- of all these words some were added behind others, and the rest are left
pub record AreLeft (before all so_far rest : List Text) : Type 0 where
  pub order : before ++ all ≡ so_far ++ rest
  pub each : Each IsInPaths rest → Each IsInPaths all
  pub faulty : (f : JobFault) → IsPartFault rest f → IsPartFault all f

pub more_added : (before all so_far rest words left after : List Text) → AreLeft before all so_far rest → rest ≡ words ++ left
    → (after ≡ so_far ++ words) × Each IsInPaths words → AreLeft before all after left
more_added before all so_far rest words left after are parts (added, each) = record {
  order = are.order ∙ rw (parts, added) (sym (append_assoc so_far words left));
  each = λ others. are.each (subst (Each IsInPaths) (sym parts) (joined words left each others));
  faulty = λ f is. are.faulty f (subst (λ (l : List Text). IsPartFault l f) (sym parts) (faulty_back words left f is));
}

pub one_faulty : (before all so_far rest words left : List Text) (f : JobFault) → AreLeft before all so_far rest → rest ≡ words ++ left
    → IsPartFault words f → IsPartFault all f
one_faulty before all so_far rest words left f are parts is =
    are.faulty f (subst (λ (l : List Text). IsPartFault l f) (sym parts) (faulty_front words left f is))

pub all_added : (before all so_far : List Text) → AreLeft before all so_far [] → (so_far ≡ before ++ all) × Each IsInPaths all
all_added before all so_far are = (sym (are.order ∙ append-nil so_far), are.each tt)
