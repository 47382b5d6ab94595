-- Tests over lists.
use Rattle.std.proofs.Common.{◌≡◌, Bool, true, false, ◌||◌, List, [], ◌∷◌, map, refl, ◌∙◌, ap}
use Rattle.std.proofs.lemmas.Bool.{both_ways, false_from_ne_true, true_from_ne_false}
use Rattle.std.proofs.lemmas.List.Folds.{Any-from_list_any, list_all_at, list_any_at}
use Rattle.std.specs.List.{list_all, list_any}

pub list_any-map : {X Y : Type 0} (p : Y → Bool) (f : X → Y) (xs : List X) → list_any p (map f xs) ≡ list_any (λ x. p (f x)) xs
list_any-map p f [] = refl
list_any-map p f (x ∷ xs) = ap (λ b. p (f x) || b) (list_any-map p f xs)

-- where `same` tells that a value is x, and one of the list is: x passes what all of them pass, and not what none passes
module _ {X : Type 0} (test same : X → Bool) (x : X) (is : (y : X) → same y ≡ true → y ≡ x) where
  pub passes-all : (xs : List X) → list_any same xs ≡ true → list_all test xs ≡ true → test x ≡ true
  passes-all xs e all =
      let (i, y, within, at, s) = Any-from_list_any same xs e in
      true_from_ne_false (test x) (λ f. both_ways (list_all test xs) (list_all_at test xs i y within (ap test (at ∙ is y s) ∙ f)) all)

  pub passes-none : (xs : List X) → list_any same xs ≡ true → list_any test xs ≡ false → test x ≡ false
  passes-none xs e none =
      let (i, y, within, at, s) = Any-from_list_any same xs e in
      false_from_ne_true (test x) (λ t. both_ways (list_any test xs) none (list_any_at test xs i y within (ap test (at ∙ is y s) ∙ t)))
