-- Counts: how many arguments of some classes an allowed list has.
use Rattle.std.specs.Prelude.{ℕ, ◌+◌, ◌&&◌, ◌||◌, not, Bool, true, false, List, [], ◌∷◌}
use Rattle.std.specs.List.{list_any, list_all}
use Rattle.crs_shape.specs.declared.class.Class.{Class}
use Rattle.crs_shape.specs.Shape.{SlotParts}

-- 1 where the test holds, else 0
abbrev pub one_if : Bool → ℕ
one_if true = 1
one_if false = 0

-- how many of these classes pass the test
abbrev pub how_many : (Class → Bool) → List Class → ℕ
how_many p [] = 0
how_many p (c ∷ cs) = one_if (p c) + how_many p cs

-- how many slots are required and only for classes that pass
abbrev pub least : (Class → Bool) → List SlotParts → ℕ
least p [] = 0
least p (slot ∷ slots) = one_if (slot.required && list_all p slot.classes) + least p slots

-- how many slots have a class that passes
abbrev pub most : (Class → Bool) → List SlotParts → ℕ
most p [] = 0
most p (slot ∷ slots) = one_if (list_any p slot.classes) + most p slots

-- whether no slot that takes many has a class that passes
abbrev pub is_bounded : (Class → Bool) → List SlotParts → Bool
is_bounded p [] = true
is_bounded p (slot ∷ slots) = (not slot.many || not (list_any p slot.classes)) && is_bounded p slots
