-- Arguments that are judged in a slot, or in some slots: which of a class are from there on.
use Rattle.std.proofs.Common.{◌≡◌, ℕ, Bool, true, false, Option, Some, None, List, ◌∷◌, ◌++◌, refl, sym, ◌∙◌, ap, subst, IfSome, rules}
use Rattle.std.specs.List.{list_any}
use Rattle.std.proofs.lemmas.Bool.{or_parts}
use denote.Enum.Bare.{sameb, false_same}
use Rattle.crs_text.specs.inner.Prelude.{Item, rest_of, here, HasId, IsAt, RefusedAt}
use Rattle.crs_shape.specs.contracts.class.Class.{the_type}
use Rattle.crs_shape.specs.declared.class.Class.{Class}
use Rattle.crs_shape.specs.inner.Prelude.{SlotParts, is_class, takes, again}
use Rattle.crs_value.specs.inner.Judged.{AllLeave, AllPassed, Answers, Leaves, Passed}
use Rattle.crs_value.specs.Reading.{is_a, those}
use Rattle.crs_value.specs.inner.Arguments.{item_at}
use Rattle.crs_value.proofs.found.ArgumentLemmas.{ahead_at, those-later}

pub leaves-none : (tree : Item) (c : Class) (slot : SlotParts) (at : Option ℕ) → Leaves tree c slot at at
leaves-none tree c slot at d none = refl

pub leaves-at : (tree : Item) (c : Class) (slot : SlotParts) (at other next : Option ℕ) → at ≡ other → Leaves tree c slot other next → Leaves tree c slot at next
leaves-at tree c slot at other next e h = rw e h

pub leaves-to : (tree : Item) (c : Class) (slot : SlotParts) (at next other : Option ℕ) → next ≡ other → Leaves tree c slot at next → Leaves tree c slot at other
leaves-to tree c slot at next other e h = rw e at h

-- a class that a slot takes isn't one that it doesn't take
other-class : (d e : Class) (slot : SlotParts) → takes slot e ≡ true → takes slot d ≡ false → sameb the_type e d ≡ false
other-class d e slot it none =
    false_same the_type (search rules) e d (λ same. let k : takes slot d ≡ true = subst (λ x. takes slot x ≡ true) same it in cc)

judged-other : (p d : Class) (slot : SlotParts) (item : Item) (old mid : Option RefusedAt) → Answers p slot.classes item old (Some true) mid → takes slot d ≡ false → is_a p d item ≡ false
judged-other p d slot item old mid (e, (is, (takes_it, judged))) none = ap (is_class d) is ∙ other-class d e slot takes_it none

-- an argument that is judged in the slot
pub leaves-judged : (tree : Item) (p : Class) (slot : SlotParts) (at : Option ℕ) (id : ℕ) (next : Option ℕ) (old mid : Option RefusedAt) (answer : Option Bool) → at ≡ Some id → HasId tree id →
    IsAt tree (rest_of (here tree id)) next → answer ≡ Some true → Answers p slot.classes (item_at tree id) old answer mid → Leaves tree p slot at next
leaves-judged tree p slot at id next old mid answer same has is-at said answers =
    leaves-at tree p slot at (Some id) next same
    (λ d none. those-later p d (here tree id) has
    (judged-other p d slot (item_at tree id) old mid (rw said at answers) none)
    ∙ ap (those p d) (sym (ahead_at tree (rest_of (here tree id)) next is-at)))

-- one more of them
pub leaves-past : (tree : Item) (p : Class) (slot : SlotParts) (at from : Option ℕ) (id : ℕ) (next : Option ℕ) (old mid : Option RefusedAt) (answer : Option Bool) → from ≡ Some id →
    HasId tree id → IsAt tree (rest_of (here tree id)) next → answer ≡ Some true → Answers p slot.classes (item_at tree id) old answer mid → Leaves tree p slot at from → Leaves tree p slot at next
leaves-past tree p slot at from id next old mid answer same has is-at said answers leaves = λ d none.
    leaves d none ∙ leaves-judged tree p slot from id next old mid answer same has is-at said answers d none

-- the first of them, and then any number
pub leaves-again : (tree : Item) (p : Class) (slot : SlotParts) (at next : Option ℕ) (found : Option (Option ℕ)) → Leaves tree p slot at next →
    IfSome found (λ last. Leaves tree p (again slot) next last) → IfSome found (λ last. Leaves tree p slot at last)
leaves-again tree p slot at next None one more = more
leaves-again tree p slot at next (Some last) one more = λ d none. one d none ∙ more d none

-- ---- slots before others

pub all-leave-on : (tree : Item) (p : Class) (slot : SlotParts) (front : List SlotParts) (at next : Option ℕ) (found : Option (Option ℕ)) → Leaves tree p slot at next →
    IfSome found (λ last. AllLeave tree p front next last) → IfSome found (λ last. AllLeave tree p (slot ∷ front) at last)
all-leave-on tree p slot front at next None one more = more
all-leave-on tree p slot front at next (Some last) one more = λ d none.
    let both = or_parts (takes slot d) (list_any (λ s. takes s d) front) none in
    one d both.0 ∙ more d both.1

pub all-passed-on : (tree : Item) (p : Class) (close : ℕ) (slot : SlotParts) (front : List SlotParts) (at next : Option ℕ) (found : Option (Option ℕ)) (old mid new : Option RefusedAt) →
    Passed tree p close slot at old (Some next) mid → AllPassed tree p close front next mid found new → AllPassed tree p close (slot ∷ front) at old found new
all-passed-on tree p close slot front at next None old mid new one more = λ slots. one (front ++ slots) false new (more slots)
all-passed-on tree p close slot front at next (Some last) old mid new one more = λ slots ok end rest. one (front ++ slots) ok end (more slots ok end rest)
