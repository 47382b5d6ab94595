-- A bridge: what a walk over items answers: whether it found no fault of shape, and the first fault so far:
-- that of shape where there is one, else the least of the checks that are broken.
use Rattle.std.specs.Prelude.{◌≡◌, ℕ, ◌⊎◌, Bool, true, false, Option, Some, None, List, ◌∷◌, ◌++◌, get_or}
use Rattle.std.specs.List.{list_any}
use denote.Enum.Bare.{sameb}
use Rattle.crs_text.specs.Items.{Item}
use Rattle.crs_text.specs.Refusal.{RefusedAt}
use Rattle.crs_shape.specs.contracts.class.Class.{the_type}
use Rattle.crs_shape.specs.declared.class.Class.{Class}
use Rattle.crs_shape.specs.declared.class.Class.TheVariants as class
use Rattle.crs_shape.specs.inner.Walk.{first_inside, first_in_arguments}
use Rattle.crs_shape.specs.Keywords.{every_class}
use Rattle.crs_shape.specs.ShapeFault.{class_in}
use Rattle.crs_shape.specs.Shape.{SlotParts, takes}
use Rattle.crs_value.specs.Checks.{IsLeast, Breaks, BreaksAmong}
use Rattle.crs_value.specs.Reading.{those}
use Rattle.crs_value.specs.inner.Arguments.{ahead}

-- the class at a place among all
abbrev pub class_at : ℕ → Class
class_at place = get_or every_class place class.Number

-- whether it is one of these classes
abbrev pub is_in : List Class → Option Class → Bool
is_in cs None = false
is_in cs (Some d) = list_any (λ e. sameb the_type e d) cs

-- the first fault so far is joined by others: by one of shape, or else by the checks that are broken
abbrev pub Gives : Option RefusedAt → Option RefusedAt → (RefusedAt → Type 0) → Bool → Option RefusedAt → Type 0
Gives None old Broken true new = IsLeast (λ f. (old ≡ Some f) ⊎ Broken f) new
Gives None old Broken false new = ⊥
Gives (Some fault) old Broken true new = ⊥
Gives (Some fault) old Broken false new = new ≡ Some fault

-- a whole item is judged as one of this class
abbrev pub Judged : Class → Item → Option RefusedAt → Bool → Option RefusedAt → Type 0
Judged c item old ok new = Gives (first_inside c item) old (Breaks c item) ok new

-- the arguments from one on are judged against these slots, in a node that is closed at `close`
abbrev pub Walked : Item → Class → ℕ → List SlotParts → Option ℕ → Option RefusedAt → Bool → Option RefusedAt → Type 0
Walked tree c close slots at old ok new =
    Gives (first_in_arguments c close slots (ahead tree at)) old (BreaksAmong c (ahead tree at)) ok
    new

-- a walk over a slot: it stops at a fault of shape; else whatever the
-- arguments behind it give, those from `at` on give with the slot
abbrev pub Passed : Item → Class → ℕ → SlotParts → Option ℕ → Option RefusedAt →
    Option (Option ℕ) → Option RefusedAt → Type 0
Passed tree c close slot at old None new =
    (slots : List SlotParts) → Walked tree c close (slot ∷ slots) at old false new
Passed tree c close slot at old (Some next) new =
    (slots : List SlotParts) (ok : Bool) (last : Option RefusedAt) →
    Walked tree c close slots next new ok last → Walked tree c close (slot ∷ slots) at old ok last

-- a walk over some slots, as `Passed` of one
abbrev pub AllPassed : Item → Class → ℕ → List SlotParts → Option ℕ → Option RefusedAt →
    Option (Option ℕ) → Option RefusedAt → Type 0
AllPassed tree c close front at old None new =
    (slots : List SlotParts) → Walked tree c close (front ++ slots) at old false new
AllPassed tree c close front at old (Some next) new =
    (slots : List SlotParts) (ok : Bool) (last : Option RefusedAt) →
    Walked tree c close slots next new ok last → Walked tree c close (front ++ slots) at old ok last

-- the arguments from `at` on have the same ones as those from `next` on, of each class that the slot doesn't take
abbrev pub Leaves : Item → Class → SlotParts → Option ℕ → Option ℕ → Type 0
Leaves tree c slot at next =
    (d : Class) → takes slot d ≡ false → those c d (ahead tree at) ≡ those c d (ahead tree next)

-- the same of the classes that none of some slots takes
abbrev pub AllLeave : Item → Class → List SlotParts → Option ℕ → Option ℕ → Type 0
AllLeave tree c front at next =
    (d : Class) → list_any (λ s. takes s d) front ≡ false →
    those c d (ahead tree at) ≡ those c d (ahead tree next)

-- an argument isn't of these classes, or is judged as the one that it is of
abbrev pub Answers : Class → List Class → Item → Option RefusedAt → Option Bool → Option RefusedAt → Type 0
Answers parent cs item old None new = (is_in cs (class_in parent item) ≡ false) × (new ≡ old)
Answers parent cs item old (Some ok) new =
    (d : Class)
    × ((class_in parent item ≡ Some d) × ((is_in cs (Some d) ≡ true) × Judged d item old ok new))
