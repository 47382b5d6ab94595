-- A bridge: a walk over slots: the slots that are left after the
-- arguments so far, the first of them perhaps filled already.
use Rattle.std.specs.Prelude.{◌&&◌, not, Bool, true, false, Option, Some, None, List, [], ◌∷◌, drop, map, if◌then◌else◌, filter, ℕ}
use Rattle.crs_shape.specs.declared.class.Class.{Class}
use Rattle.crs_shape.specs.declared.fitting.Walk.{Walk}
use Rattle.crs_shape.specs.declared.slot.Slot.{Slot}
use Rattle.crs_shape.specs.Shape.{SlotParts, shown, takes, slots_of}
use Rattle.crs_shape.specs.Keywords.{every_class, root_classes, is_keyword}
use Rattle.crs_text.specs.Items.{Item, leaf, node, Siblings, End, More}
use Rattle.crs_text.specs.Refusal.{RefusedAt}
use Rattle.crs_shape.specs.ShapeFault.{class_in, is_of, misplaced, missing}

-- a slot that takes many, after its first argument
abbrev pub again : SlotParts → SlotParts
again slot = record { classes = slot.classes; required = false; many = slot.many }

-- the slots that are left where the first of these has an argument already, or not yet
abbrev pub left : Bool → List SlotParts → List SlotParts
left false slots = slots
left true [] = []
left true (slot ∷ slots) = again slot ∷ slots

-- the slots that are left after one more argument, of this class; None where it isn't allowed there
abbrev pub after : List SlotParts → Class → Option (List SlotParts)
after [] c = None
after (slot ∷ slots) c =
    if takes slot c then Some (if slot.many then again slot ∷ slots else slots)
    else (if slot.required then None else after slots c)

-- whether the arguments may end here
abbrev pub may_end : List SlotParts → Bool
may_end [] = true
may_end (slot ∷ slots) = not slot.required && may_end slots

-- the slots of a row that are left for a walk
abbrev pub left_of : List Slot → Walk → List SlotParts
left_of row walk = left walk.filled (drop walk.at (map shown row))

-- ---- a bridge: what may come where a walk is in the slots of a class

-- the slots of a class that are left for a walk
abbrev pub slots_left : Class → Walk → List SlotParts
slots_left parent walk = left walk.filled (drop walk.at (slots_of parent))

-- whether there is something
abbrev pub has_some : {A : Type 0} → Option A → Bool
has_some None = false
has_some (Some a) = true

-- whether an argument of this class may come where these slots are left
abbrev pub may_go : List SlotParts → Class → Bool
may_go slots c = has_some (after slots c)

-- the classes of the arguments that may come, in a parent or at the root of a text
abbrev pub classes_left : Option Class → Walk → List Class
classes_left None walk = root_classes
classes_left (Some parent) walk = filter (may_go (slots_left parent walk)) every_class

-- whether the arguments may end
abbrev pub end_left : Option Class → Walk → Bool
end_left None walk = false
end_left (Some parent) walk = may_end (slots_left parent walk)

-- ---- a bridge: the fault of shape that a walk over slots finds first

-- the first of two faults
abbrev pub or_later : Option RefusedAt → Option RefusedAt → Option RefusedAt
or_later None later = later
or_later (Some fault) later = Some fault

-- the class of an argument and the slots that are left after it, where it is allowed there
abbrev pub step_to : Class → Option (List SlotParts) → Option (Class × List SlotParts)
step_to c None = None
step_to c (Some next) = Some (c, next)

-- the class of an argument of this class and the slots that are left after it, where it has one and is allowed there
abbrev pub step_as : List SlotParts → Option Class → Option (Class × List SlotParts)
step_as slots None = None
step_as slots (Some c) = step_to c (after slots c)

-- the class of an item in its parent and the slots that are left after it, where it is allowed there
abbrev pub step_of : Class → List SlotParts → Item → Option (Class × List SlotParts)
step_of parent slots item = step_as slots (class_in parent item)

-- the fault of an argument or of those after it, by this step
abbrev pub fault_by : Item → (Class → Option RefusedAt) → (List SlotParts → Option RefusedAt) →
    Option (Class × List SlotParts) → Option RefusedAt
fault_by item within later None = Some (misplaced item)
fault_by item within later (Some step) = or_later (within step.0) (later step.1)

-- the fault of an argument or of those after it, from these slots on
abbrev pub fault_from : Class → List SlotParts → Item → (Class → Option RefusedAt) →
    (List SlotParts → Option RefusedAt) → Option RefusedAt
fault_from parent slots item within later = fault_by item within later (step_of parent slots item)

unfoldable mutual
  -- the first fault of an item that is asked to be of this class
  pub first_inside : Class → Item → Option RefusedAt
  first_inside c (leaf kind place raw) =
      if is_of c (leaf kind place raw) then None else Some (misplaced (leaf kind place raw))
  first_inside c (node place keyword square first others close) =
      if is_keyword c keyword
      then fault_from c (slots_of c) first (λ d. first_inside d first)
      (λ next. first_in_arguments c close next others)
      else Some (misplaced (node place keyword square first others close))

  -- the first fault of some arguments, from these slots on
  pub first_in_arguments : Class → ℕ → List SlotParts → Siblings → Option RefusedAt
  first_in_arguments c close slots End = if may_end slots then None else Some (missing close)
  first_in_arguments c close slots (More item items) =
      fault_from c slots item (λ d. first_inside d item)
      (λ next. first_in_arguments c close next items)
