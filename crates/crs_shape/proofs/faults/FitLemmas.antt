-- The fault of an item, as the loop over its arguments finds it.
use Rattle.std.proofs.Common.{◌≡◌, ◌≢◌, ℕ, ◌+◌, ◌<◌, Bool, true, false, inl, inr, Option, Some, None, List, [], ◌∷◌, if◌then◌else◌, refl, sym, ◌∙◌, ap, subst, arith}
use Rattle.std.proofs.lemmas.Bool.{cases_Bool}
use Rattle.std.proofs.lemmas.Option.{none-some, same_Some, some_pair_parts}
use Rattle.crs_text.specs.inner.Prelude.{Item, leaf, node, Siblings, End, More, arguments, first_of, rest_of, close_of, size_of, sizes, here, HasId, IsAt}
use Rattle.crs_shape.specs.declared.class.Class.{Class}
use denote.Enum.Bare.{true_same}
use Rattle.crs_shape.specs.contracts.class.Class.{the_type}
use Rattle.crs_shape.specs.Keywords.{is_keyword, first_named, root_classes, root_named}
use Rattle.crs_shape.specs.Shape.{SlotParts, slots_of, named_in, class_named}
use Rattle.crs_shape.specs.inner.Walk.{after, may_end, step_to, step_as, step_of, fault_by, fault_from, first_inside, first_in_arguments}
use Rattle.crs_shape.specs.ShapeFault.{class_of_kind, class_in, class_of_root, is_of, misplaced, missing}

-- the items from one on, where there is one
abbrev pub from : Item → Option ℕ → Siblings
from tree None = End
from tree (Some id) = here tree id

abbrev pub HasNext : Item → Option ℕ → Type 0
HasNext tree None = Unit {0}
HasNext tree (Some id) = HasId tree id

-- what the loop keeps: the fault from the next argument on is that of the item
pub record Going (tree : Item) (class : Class) (item : Item) (close : ℕ) (slots : List SlotParts) (next : Option ℕ) : Type 0 where
  pub same : first_in_arguments class close slots (from tree next) ≡ first_inside class item
  pub has : HasNext tree next
  pub less : sizes (from tree next) < size_of item

pub from_at : (tree : Item) (items : Siblings) (next : Option ℕ) → IsAt tree items next → from tree next ≡ items
from_at tree items None e = sym e
from_at tree items (Some id) h = h.0

pub has_at : (tree : Item) (items : Siblings) (next : Option ℕ) → IsAt tree items next → HasNext tree next
has_at tree items None e = tt
has_at tree items (Some id) h = h.1

pub arguments-less : (item : Item) → sizes (arguments item) < size_of item
arguments-less (leaf kind place raw) = omega arith
arguments-less (node place keyword square first others close) = omega arith

pub not_of : (c : Class) (item : Item) → is_of c item ≡ false → Some (misplaced item) ≡ first_inside c item
unfolding first_inside
not_of c (leaf kind place raw) e = rw e refl
not_of c (node place keyword square first others close) e = rw e refl

pub no_arguments : (c : Class) (item : Item) → is_of c item ≡ true → close_of item ≡ None → None ≡ first_inside c item
unfolding first_inside
no_arguments c (leaf kind place raw) e f = rw e refl
no_arguments c (node place keyword square first others close) e f = cc

of_arguments : (c : Class) (item : Item) (close : ℕ) → is_of c item ≡ true → close_of item ≡ Some close →
    first_in_arguments c close (slots_of c) (arguments item) ≡ first_inside c item
unfolding first_inside first_in_arguments
of_arguments c (leaf kind place raw) close e f = cc
of_arguments c (node place keyword square first others end) close e f =
    let same : end ≡ close = cc in
    rw (e, same) refl

pub going_first : (tree : Item) (c : Class) (item : Item) (close : ℕ) (next : Option ℕ) → is_of c item ≡ true → close_of item ≡ Some close →
    IsAt tree (arguments item) next → Going tree c item close (slots_of c) next
going_first tree c item close next e f at = record {
  same = ap (first_in_arguments c close (slots_of c)) (from_at tree (arguments item) next at) ∙ of_arguments c item close e f;
  has = has_at tree (arguments item) next at;
  less = let same : sizes (from tree next) ≡ sizes (arguments item) = ap sizes (from_at tree (arguments item) next at) in omega (arith, arguments-less item);
}

pub by_more : (items : Siblings) → items ≢ End → More (first_of items) (rest_of items) ≡ items
by_more End some = absurd (some refl)
by_more (More item items) some = refl

by_items : (c : Class) (close : ℕ) (slots : List SlotParts) (items : Siblings) → items ≢ End →
    first_in_arguments c close slots items ≡ fault_from c slots (first_of items) (λ d. first_inside d (first_of items)) (λ next. first_in_arguments c close next (rest_of items))
unfolding first_inside first_in_arguments
by_items c close slots items some = sym (ap (first_in_arguments c close slots) (by_more items some))

sizes-first : (items : Siblings) → items ≢ End → sizes items ≡ size_of (first_of items) + sizes (rest_of items)
sizes-first items some = sym (ap sizes (by_more items some))

pub argument-less : (tree : Item) (id : ℕ) (n : ℕ) → HasId tree id → sizes (here tree id) < n → size_of (first_of (here tree id)) < n
argument-less tree id n has less = omega (arith, sizes-first (here tree id) has)

pub rest-less : (tree : Item) (id : ℕ) (next : Option ℕ) → HasId tree id → IsAt tree (rest_of (here tree id)) next → sizes (from tree next) < sizes (here tree id)
rest-less tree id next has at =
    let same : sizes (from tree next) ≡ sizes (rest_of (here tree id)) = ap sizes (from_at tree (rest_of (here tree id)) next at) in
    omega (arith, sizes-first (here tree id) has, arguments-less (first_of (here tree id)))

-- an argument and those after it, by its step
pub going_by : (tree : Item) (c : Class) (item : Item) (close : ℕ) (slots : List SlotParts) (id : ℕ) (step : Option (Class × List SlotParts)) →
    Going tree c item close slots (Some id) → step ≡ step_of c slots (first_of (here tree id)) →
    fault_by (first_of (here tree id)) (λ d. first_inside d (first_of (here tree id))) (λ next. first_in_arguments c close next (rest_of (here tree id))) step ≡ first_inside c item
going_by tree c item close slots id step going e =
    ap (fault_by (first_of (here tree id)) (λ d. first_inside d (first_of (here tree id))) (λ next. first_in_arguments c close next (rest_of (here tree id)))) e
    ∙ sym (by_items c close slots (here tree id) going.has) ∙ going.same

pub going_on : (tree : Item) (c : Class) (item : Item) (close : ℕ) (slots left : List SlotParts) (named : Class) (id : ℕ) (next : Option ℕ) →
    Going tree c item close slots (Some id) → Some (named, left) ≡ step_of c slots (first_of (here tree id)) →
    None ≡ first_inside named (first_of (here tree id)) → IsAt tree (rest_of (here tree id)) next → Going tree c item close left next
going_on tree c item close slots left named id next going e is at = record {
  same =
      ap (first_in_arguments c close left) (from_at tree (rest_of (here tree id)) next at)
      ∙ (rw (← is) at (going_by tree c item close slots id (Some (named, left)) going e));
  has = has_at tree (rest_of (here tree id)) next at;
  less = omega (arith, rest-less tree id next going.has at, going.less);
}

pub going_end : (tree : Item) (c : Class) (item : Item) (close : ℕ) (slots : List SlotParts) (b : Bool) → Going tree c item close slots None → b ≡ may_end slots →
    (if b then None else Some (missing close)) ≡ first_inside c item
unfolding first_in_arguments
going_end tree c item close slots b going e = rw (← e) at going.same

-- an argument is of the class that it has in its parent

pub first-has : (cs : List Class) (word : List ℕ) (c : Class) → first_named cs word ≡ Some c → is_keyword c word ≡ true
first-has [] word c e = cc
first-has (d ∷ ds) word c e =
    elim (cases_Bool (is_keyword d word)) [
      | inl has ↦ subst (λ x. is_keyword x word ≡ true) (same_Some d c (rw has at e)) has
      | inr other ↦ first-has ds word c (rw other at e)
    ]

named-has : (slots : List SlotParts) (word : List ℕ) (c : Class) → named_in slots word ≡ Some c → is_keyword c word ≡ true
named-has [] word c e = cc
named-has (s ∷ ss) word c e =
    elim (first_named s.classes word) as (λ o. first_named s.classes word ≡ o → is_keyword c word ≡ true) [
      | None ↦ λ f. named-has ss word c (rw f at e)
      | Some d ↦ λ f. first-has s.classes word c (f ∙ (rw f at e))
    ] refl

pub class-is_of : (parent c : Class) (item : Item) → class_in parent item ≡ Some c → is_of c item ≡ true
unfolding class_named
class-is_of parent c (leaf kind place raw) e = true_same the_type (class_of_kind kind) c cc
class-is_of parent c (node place keyword square first others close) e = named-has (slots_of parent) keyword c e

pub root-is_of : (c : Class) (item : Item) → class_of_root item ≡ Some c → is_of c item ≡ true
unfolding root_named
root-is_of c (leaf kind place raw) e = cc
root-is_of c (node place keyword square first others close) e = first-has root_classes keyword c e

pub step_class : (parent c : Class) (slots later : List SlotParts) (item : Item) → Some (c, later) ≡ step_of parent slots item → (class_in parent item ≡ Some c) × (after slots c ≡ Some later)
step_class parent c slots later item e = by (class_in parent item) refl e
  where
    to : (d : Class) (o : Option (List SlotParts)) → after slots d ≡ o → Some (c, later) ≡ step_to d o → (d ≡ c) × (after slots d ≡ Some later)
    to d None f e = absurd (none-some (c, later) (sym e))
    to d (Some next) f e = let (same, rest) = some_pair_parts c d later next e in (sym same, f ∙ ap Some (sym rest))

    by : (o : Option Class) → class_in parent item ≡ o → Some (c, later) ≡ step_as slots o → (class_in parent item ≡ Some c) × (after slots c ≡ Some later)
    by None f e = absurd (none-some (c, later) (sym e))
    by (Some d) f e = let (same, goes) = to d (after slots d) refl e in (f ∙ ap Some same, ap (after slots) (sym same) ∙ goes)

pub step-is_of : (parent c : Class) (slots left : List SlotParts) (item : Item) → Some (c, left) ≡ step_of parent slots item → is_of c item ≡ true
step-is_of parent c slots left item e = class-is_of parent c item (step_class parent c slots left item e).0
