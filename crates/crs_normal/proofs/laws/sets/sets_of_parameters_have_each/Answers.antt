use Rattle.std.proofs.Common.{◌≡◌, Bool, List, [], ◌∷◌, true, map, refl}
use Rattle.std.proofs.lemmas.Bool.{and_parts}
use Rattle.std.proofs.lemmas.Bool.Decides.{same_from_decides}
use Rattle.std.specs.List.{list_all}
use Rattle.crs_text.specs.inner.Prelude.{item_text}
use Rattle.crs_value.specs.inner.Prelude.{IsParameter, ParameterParts}
use Rattle.crs_value.specs.Sound.{Each}
use Rattle.crs_same.specs.inner.Prelude.{SameParameter}
use Rattle.crs_normal.specs.inner.Prelude.{in_order, item_parameter, norm_parameter, set_parameters}
use Rattle.crs_normal.proofs.members.AgreeLemmas.{parameter-told}
use Rattle.crs_normal.proofs.members.SetLemmas.{each-has, each-in_order, each-of, set-has}
use Rattle.crs_normal.proofs.laws.sets.sets_of_parameters_have_each.Goals as goal

all-to : {A : Type 0} (test : A → Bool) (xs : List A) → list_all test xs ≡ true → Each (λ x. test x ≡ true) xs
all-to test [] e = tt
all-to test (x ∷ xs) e = let h = and_parts (test x) (list_all test xs) e in (h.0, all-to test xs h.1)

all-from : {A : Type 0} (test : A → Bool) (xs : List A) → Each (λ x. test x ≡ true) xs → list_all test xs ≡ true
all-from test [] h = refl
all-from test (x ∷ xs) h = rw (h.0, all-from test xs h.1)

pub returns : goal.returns
unfolding set_parameters
returns c level test xs h =
    let text = λ (p : ParameterParts). item_text (item_parameter p) in
    let told = parameter-told c.lower_laws.ensures c.members_read_once.ensures.parameter level in
    let ys = map (norm_parameter level) xs in
    same_from_decides {P = list_all test ys ≡ true} (list_all test (in_order text ys)) (list_all test ys) (
      λ e. all-from test ys (each-of (λ y. test y ≡ true) ys (λ z q.
          each-has (λ y. test y ≡ true) (in_order text ys) z (all-to test (in_order text ys) e)
          (set-has (norm_parameter level) text IsParameter (SameParameter level) told xs h z q))),
      λ e. all-from test (in_order text ys) (each-in_order text (λ y. test y ≡ true) ys (all-to test ys e)),
    ) (λ e. e, λ e. e)
