-- Lists of the same members.
use Rattle.std.specs.Prelude.{◌≡◌, ◌⊎◌, List, [], ◌∷◌}

-- x is one of these
abbrev pub IsIn : {A : Type 0} → A → List A → Type 0
IsIn x [] = ⊥
IsIn x (y ∷ ys) = (x ≡ y) ⊎ IsIn x ys

-- each of the first is one of the others
abbrev pub AreIn : {A : Type 0} → List A → List A → Type 0
AreIn [] ys = Unit {0}
AreIn (x ∷ xs) ys = IsIn x ys × AreIn xs ys

-- two lists have the same members, in whatever order and however often
abbrev pub HaveSameMembers : {A : Type 0} → List A → List A → Type 0
HaveSameMembers xs ys = AreIn xs ys × AreIn ys xs
