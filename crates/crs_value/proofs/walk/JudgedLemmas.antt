-- A walk over items: what is passed over joins what is found behind it.
use Rattle.std.proofs.Common.{◌≡◌, ◌≢◌, ◌↔◌, ℕ, ◌||◌, Bool, true, false, IsTrue, inl, inr, ◌⊎◌, ⊎_elim, Option, Some, None, List, [], ◌∷◌, if◌then◌else◌, refl, sym, ◌∙◌, ap, subst, ◌++◌, rules}
use Rattle.std.proofs.Math.Bool.{or-true}
use Rattle.std.proofs.lemmas.List.Folds.{list_any-append}
use Rattle.std.proofs.lemmas.Option.{same_Some}
use denote.Enum.Bare.{sameb, true_same, same_false, false_same}
use Rattle.crs_text.specs.inner.Prelude.{Item, leaf, node, Siblings, End, More, arguments, first_of, rest_of, close_of, here, HasId, IsAt, RefusedAt}
use Rattle.crs_shape.specs.contracts.class.Class.{the_type}
use Rattle.crs_shape.specs.declared.class.Class.{Class}
use Rattle.crs_shape.specs.inner.Prelude.{or_later, fault_by, step_as, first_inside, first_in_arguments, Shaped, class_in, is_of, misplaced, missing, SlotParts, is_class, takes, slots_of, again, any_of, one_of, some_of}
use Rattle.crs_value.specs.Checks.{IsLeast, AtClass, Own, Breaks, BreaksAmong}
use Rattle.crs_value.specs.inner.Judged.{is_in, Gives, Judged, Walked, Passed, Answers}
use Rattle.crs_value.specs.inner.Arguments.{lesser, item_at, ahead}
use Rattle.crs_value.proofs.found.ArgumentLemmas.{ahead_at, class-is}
use Rattle.crs_value.proofs.checked.LeastLemmas.{IsFirst, first-self, first-trans, least-either, least-same, least-beside}

-- ---- the least of some faults

-- the least of what was found, joined by more
least-on : (P Q : RefusedAt → Type 0) (a b c : Option RefusedAt) → IsLeast (λ f. (a ≡ Some f) ⊎ P f) b → IsLeast (λ f. (b ≡ Some f) ⊎ Q f) c →
    IsLeast (λ f. (a ≡ Some f) ⊎ (P f ⊎ Q f)) c
least-on P Q a None None p q = λ f. ⊎_elim (λ e. p f (inl e)) (⊎_elim (λ h. p f (inr h)) (λ h. q f (inr h)))
least-on P Q a (Some g) None p q = absurd (q g (inl refl))
least-on P Q a None (Some l) p q = (
  inr (inr (⊎_elim (λ e. cc) (λ h. h) q.0)),
  λ f. ⊎_elim (λ e. absurd (p f (inl e))) (⊎_elim (λ h. absurd (p f (inr h))) (λ h. q.1 f (inr h))),
)
least-on P Q a (Some g) (Some l) p q =
    let R : RefusedAt → Type 0 = λ x. (a ≡ Some x) ⊎ (P x ⊎ Q x) in
    let old : (f : RefusedAt) → (a ≡ Some f) ⊎ P f → IsFirst l f = λ f h. first-trans l g f (q.1 g (inl refl)) (p.1 f h) in (
      ⊎_elim (λ e. subst R (same_Some g l e) (⊎_elim (λ k. inl k) (λ h. inr (inl h)) p.0)) (λ h. inr (inr h)) q.0,
      λ f. ⊎_elim (λ e. old f (inl e)) (⊎_elim (λ h. old f (inr h)) (λ h. q.1 f (inr h))),
    )

old-least : (mid : Option RefusedAt) → IsLeast (λ f. mid ≡ Some f) mid
old-least None = λ f e. cc
old-least (Some g) = (refl, λ f e. subst (IsFirst g) (same_Some g f e) (first-self g))

-- nothing joins what was found
least-alone : (a : Option RefusedAt) → IsLeast (λ f. (a ≡ Some f) ⊎ ⊥) a
least-alone a = least-same (λ f. a ≡ Some f) (λ f. (a ≡ Some f) ⊎ ⊥) a (λ f e. inl e) (λ f. ⊎_elim (λ e. e) (λ h. absurd h)) (old-least a)

-- ---- what is given

-- a fault of shape in an argument is the answer
gives-stop : (w later : Option RefusedAt) (old : Option RefusedAt) (P Q : RefusedAt → Type 0) (mid : Option RefusedAt) → Gives w old P false mid →
    Gives (or_later w later) old Q false mid
gives-stop None later old P Q mid h = absurd h
gives-stop (Some fault) later old P Q mid h = h

-- without one what is behind it joins what is broken in it
gives-on : (w later : Option RefusedAt) (old mid last : Option RefusedAt) (P Q : RefusedAt → Type 0) (ok : Bool) → Gives w old P true mid → Gives later mid Q ok last →
    Gives (or_later w later) old (λ f. P f ⊎ Q f) ok last
gives-on (Some fault) later old mid last P Q ok h k = absurd h
gives-on None None old mid last P Q true h k = least-on P Q old mid last h k
gives-on None None old mid last P Q false h k = absurd k
gives-on None (Some fault) old mid last P Q true h k = absurd k
gives-on None (Some fault) old mid last P Q false h k = k

-- where no fault of shape is the answer there is none
pub gives-true : (w old new : Option RefusedAt) (B : RefusedAt → Type 0) → Gives w old B true new → (w ≡ None) × IsLeast (λ f. (old ≡ Some f) ⊎ B f) new
gives-true None old new B h = (refl, h)
gives-true (Some fault) old new B h = absurd h

-- ---- the fault of shape behind one argument

-- the slots that are left behind an argument in the first
abbrev behind : SlotParts → List SlotParts → List SlotParts
behind slot slots = if slot.many then again slot ∷ slots else slots

fault-taken : (c : Class) (close : ℕ) (slot : SlotParts) (slots : List SlotParts) (items : Siblings) (d : Class) → items ≢ End → class_in c (first_of items) ≡ Some d →
    takes slot d ≡ true →
    first_in_arguments c close (slot ∷ slots) items ≡ or_later (first_inside d (first_of items)) (first_in_arguments c close (behind slot slots) (rest_of items))
unfolding first_inside first_in_arguments
fault-taken c close slot slots End d some e t = absurd (some refl)
fault-taken c close slot slots (More item items) d some e t = rw (e, t) refl

by-class : (c : Class) (item : Item) (slot : SlotParts) (Goal : Option Class → Type 0) → Goal None → ((d : Class) → takes slot d ≡ false → Goal (Some d)) →
    is_in slot.classes (class_in c item) ≡ false → Goal (class_in c item)
by-class c item slot Goal none other nope =
    elim (class_in c item) as (λ o. is_in slot.classes o ≡ false → Goal o) [
      | None ↦ λ e. none
      | Some d ↦ λ e. other d e
    ] nope

fault-skip : (c : Class) (close : ℕ) (slot : SlotParts) (slots : List SlotParts) (items : Siblings) → items ≢ End → is_in slot.classes (class_in c (first_of items)) ≡ false →
    slot.required ≡ false → first_in_arguments c close (slot ∷ slots) items ≡ first_in_arguments c close slots items
unfolding first_inside first_in_arguments
fault-skip c close slot slots End some nope free = absurd (some refl)
fault-skip c close slot slots (More item items) some nope free =
    let by : List SlotParts → Option Class → Option RefusedAt = λ ss o. fault_by item (λ d. first_inside d item) (λ next. first_in_arguments c close next items) (step_as ss o) in
    by-class c item slot (λ o. by (slot ∷ slots) o ≡ by slots o) refl (λ d t. rw (t, free) refl) nope

fault-wrong : (c : Class) (close : ℕ) (slot : SlotParts) (slots : List SlotParts) (items : Siblings) → items ≢ End → is_in slot.classes (class_in c (first_of items)) ≡ false →
    slot.required ≡ true → first_in_arguments c close (slot ∷ slots) items ≡ Some (misplaced (first_of items))
unfolding first_inside first_in_arguments
fault-wrong c close slot slots End some nope must = absurd (some refl)
fault-wrong c close slot slots (More item items) some nope must =
    let by : List SlotParts → Option Class → Option RefusedAt = λ ss o. fault_by item (λ d. first_inside d item) (λ next. first_in_arguments c close next items) (step_as ss o) in
    by-class c item slot (λ o. by (slot ∷ slots) o ≡ Some (misplaced item)) refl (λ d t. rw (t, must) refl) nope

fault-short : (c : Class) (close : ℕ) (slot : SlotParts) (slots : List SlotParts) → slot.required ≡ true → first_in_arguments c close (slot ∷ slots) End ≡ Some (missing close)
unfolding first_in_arguments
fault-short c close slot slots must = rw must refl

fault-free : (c : Class) (close : ℕ) (slot : SlotParts) (slots : List SlotParts) → slot.required ≡ false →
    first_in_arguments c close (slot ∷ slots) End ≡ first_in_arguments c close slots End
unfolding first_in_arguments
fault-free c close slot slots free = rw free refl

-- ---- passing over a slot

gives-broken : (c : Class) (items : Siblings) (d : Class) (shape old : Option RefusedAt) (ok : Bool) (last : Option RefusedAt) → items ≢ End → class_in c (first_of items) ≡ Some d →
    Gives shape old (λ f. Breaks d (first_of items) f ⊎ BreaksAmong c (rest_of items) f) ok last → Gives shape old (BreaksAmong c items) ok last
gives-broken c End d shape old ok last some e h = absurd (some refl)
gives-broken c (More item items) d shape old ok last some e h =
    let P : Option Class → Type 0 = λ o. Gives shape old (λ f. AtClass o (λ d. Breaks d item f) ⊎ BreaksAmong c items f) ok last in
    subst P (sym e) h

-- an argument is judged, and the walk goes on behind it
goes-on : (tree : Item) (c : Class) (close : ℕ) (slot : SlotParts) (slots : List SlotParts) (at : Option ℕ) (id : ℕ) (next : Option ℕ) (old mid last : Option RefusedAt) (ok : Bool) → at ≡ Some id →
    HasId tree id → IsAt tree (rest_of (here tree id)) next → Answers c slot.classes (item_at tree id) old (Some true) mid → Walked tree c close (behind slot slots) next mid ok last →
    Walked tree c close (slot ∷ slots) at old ok last
goes-on tree c close slot slots at id next old mid last ok same has is-at (d, (is, (takes_it, judged))) rest =
    let items = here tree id in
    rw same
    (gives-broken c items d (first_in_arguments c close (slot ∷ slots) items) old ok last has is
    (rw (fault-taken c close slot slots items d has is takes_it)
    (gives-on (first_inside d (first_of items)) (first_in_arguments c close (behind slot slots) (rest_of items)) old mid last (Breaks d (first_of items)) (BreaksAmong c (rest_of items)) ok judged
    (rw (ahead_at tree (rest_of items) next is-at) at rest))))

pub passed-one : (tree : Item) (c : Class) (close : ℕ) (slot : SlotParts) (at : Option ℕ) (id : ℕ) (next : Option ℕ) (old mid : Option RefusedAt) (answer : Option Bool) → slot.many ≡ false →
    at ≡ Some id → HasId tree id → IsAt tree (rest_of (here tree id)) next → answer ≡ Some true → Answers c slot.classes (item_at tree id) old answer mid →
    Passed tree c close slot at old (Some next) mid
passed-one tree c close slot at id next old mid answer few same has is-at said answers = λ slots ok last rest.
    let e : behind slot slots ≡ slots = ap (λ b. if b then again slot ∷ slots else slots) few in
    goes-on tree c close slot slots at id next old mid last ok same has is-at (rw said at answers) (rw e rest)

-- one argument and then any number are one or more
some-split : (c : Class) (close : ℕ) (cs : List Class) (slots : List SlotParts) (items : Siblings) →
    first_in_arguments c close (some_of cs ∷ slots) items ≡ first_in_arguments c close (one_of cs ∷ any_of cs ∷ slots) items
unfolding first_inside first_in_arguments
some-split c close cs slots End = refl
some-split c close cs slots (More item items) =
    let by : List SlotParts → Option Class → Option RefusedAt = λ ss o. fault_by item (λ d. first_inside d item) (λ next. first_in_arguments c close next items) (step_as ss o) in
    elim (class_in c item) as (λ o. by (some_of cs ∷ slots) o ≡ by (one_of cs ∷ any_of cs ∷ slots) o) [
      | None ↦ refl
      | Some d ↦ refl
    ]

pub passed-some : (tree : Item) (c : Class) (close : ℕ) (cs : List Class) (at next : Option ℕ) (old mid : Option RefusedAt) (found : Option (Option ℕ)) (new : Option RefusedAt) →
    Passed tree c close (one_of cs) at old (Some next) mid → Passed tree c close (any_of cs) next mid found new → Passed tree c close (some_of cs) at old found new
passed-some tree c close cs at next old mid None new one more = λ slots. rw (some-split c close cs slots (ahead tree at)) (one (any_of cs ∷ slots) false new (more slots))
passed-some tree c close cs at next old mid (Some last) new one more = λ slots ok end rest.
    rw (some-split c close cs slots (ahead tree at)) (one (any_of cs ∷ slots) ok end (more slots ok end rest))

pub passed-none : (tree : Item) (c : Class) (close : ℕ) (cs : List Class) (at : Option ℕ) (old new : Option RefusedAt) → Passed tree c close (one_of cs) at old None new →
    Passed tree c close (some_of cs) at old None new
passed-none tree c close cs at old new one = λ slots. rw (some-split c close cs slots (ahead tree at)) (one (any_of cs ∷ slots))

-- a fault of shape in it stops the walk
pub passed-stop : (tree : Item) (c : Class) (close : ℕ) (slot : SlotParts) (at : Option ℕ) (id : ℕ) (old mid : Option RefusedAt) (answer : Option Bool) → at ≡ Some id → HasId tree id →
    answer ≡ Some false → Answers c slot.classes (item_at tree id) old answer mid → Passed tree c close slot at old None mid
passed-stop tree c close slot at id old mid answer same has denied answers = by (rw denied at answers)
  where
    by : Answers c slot.classes (item_at tree id) old (Some false) mid → Passed tree c close slot at old None mid
    by (d, (is, (takes_it, judged))) = λ slots.
        let items = here tree id in
        rw (same, fault-taken c close slot slots items d has is takes_it)
        (gives-stop (first_inside d (first_of items)) (first_in_arguments c close (behind slot slots) (rest_of items)) old (Breaks d (first_of items)) (BreaksAmong c items) mid judged)

-- an argument that the slot doesn't take, and which must be there
pub passed-wrong : (tree : Item) (c : Class) (close : ℕ) (slot : SlotParts) (at : Option ℕ) (id : ℕ) (old mid : Option RefusedAt) (answer : Option Bool) (new : Option RefusedAt) →
    slot.required ≡ true → at ≡ Some id → HasId tree id → answer ≡ None → Answers c slot.classes (item_at tree id) old answer mid → new ≡ Some (misplaced (item_at tree id)) →
    Passed tree c close slot at old None new
passed-wrong tree c close slot at id old mid answer new must same has denied answers fault = λ slots.
    rw (same, fault-wrong c close slot slots (here tree id) has (rw denied at answers).0 must) fault

-- no argument is left, and one must be there
pub passed-short : (tree : Item) (c : Class) (close : ℕ) (slot : SlotParts) (at : Option ℕ) (old new : Option RefusedAt) → slot.required ≡ true → at ≡ None → new ≡ Some (missing close) →
    Passed tree c close slot at old None new
passed-short tree c close slot at old new must same fault = λ slots. rw (same, fault-short c close slot slots must) fault

-- an argument that the slot doesn't take, and which needn't be there
pub passed-skip : (tree : Item) (c : Class) (close : ℕ) (slot : SlotParts) (at : Option ℕ) (id : ℕ) (old mid : Option RefusedAt) (answer : Option Bool) → slot.required ≡ false → at ≡ Some id →
    HasId tree id → answer ≡ None → Answers c slot.classes (item_at tree id) old answer mid → Passed tree c close slot at old (Some (Some id)) mid
passed-skip tree c close slot at id old mid answer free same has denied answers = λ slots ok last rest.
    let not-there = rw denied at answers in
    rw (same, fault-skip c close slot slots (here tree id) has not-there.0 free) (rw not-there.1 at rest)

-- none is left, and none need be there
pub passed-free : (tree : Item) (c : Class) (close : ℕ) (slot : SlotParts) (at : Option ℕ) (old : Option RefusedAt) → slot.required ≡ false → at ≡ None →
    Passed tree c close slot at old (Some None) old
passed-free tree c close slot at old free same = λ slots ok last rest. rw (same, fault-free c close slot slots free) rest

-- ---- a slot for any number

-- what the slot gives from another argument on it gives from this one on
abbrev pub Reaches : Item → Class → ℕ → SlotParts → Option ℕ → Option RefusedAt → Option ℕ → Option RefusedAt → Type 0
Reaches tree c close slot at old next new =
    (slots : List SlotParts) (ok : Bool) (last : Option RefusedAt) → Walked tree c close (slot ∷ slots) next new ok last → Walked tree c close (slot ∷ slots) at old ok last

pub reaches-end : (tree : Item) (c : Class) (close : ℕ) (slot : SlotParts) (at next : Option ℕ) (old mid : Option RefusedAt) (found : Option (Option ℕ)) (new : Option RefusedAt) →
    Reaches tree c close slot at old next mid → Passed tree c close slot next mid found new → Passed tree c close slot at old found new
reaches-end tree c close slot at next old mid None new so h = λ slots. so slots false new (h slots)
reaches-end tree c close slot at next old mid (Some n) new so h = λ slots ok last rest. so slots ok last (h slots ok last rest)

pub reaches-on : (tree : Item) (c : Class) (close : ℕ) (slot : SlotParts) (at : Option ℕ) (old : Option RefusedAt) (from : Option ℕ) (id : ℕ) (next : Option ℕ) (mid new : Option RefusedAt)
    (answer : Option Bool) → slot.many ≡ true → again slot ≡ slot → from ≡ Some id → HasId tree id → IsAt tree (rest_of (here tree id)) next → answer ≡ Some true →
    Answers c slot.classes (item_at tree id) mid answer new → Reaches tree c close slot at old from mid → Reaches tree c close slot at old next new
reaches-on tree c close slot at old from id next mid new answer many more same has is-at said answers so = λ slots ok last rest.
    let e : behind slot slots ≡ slot ∷ slots = ap (λ b. if b then again slot ∷ slots else slots) many ∙ ap (λ s. s ∷ slots) more in
    so slots ok last (goes-on tree c close slot slots from id next mid new last ok same has is-at (rw said at answers) (rw e rest))

-- ---- the end

pub end-none : (tree : Item) (c : Class) (close : ℕ) (at : Option ℕ) (old : Option RefusedAt) → at ≡ None → Walked tree c close [] at old true old
unfolding first_in_arguments
end-none tree c close at old e = rw e (least-alone old)

pub end-first : (c : Class) (close : ℕ) (items : Siblings) → items ≢ End → first_in_arguments c close [] items ≡ Some (misplaced (first_of items))
unfolding first_inside first_in_arguments
end-first c close End some = absurd (some refl)
end-first c close (More item items) some =
    elim (class_in c item) as (λ o. fault_by item (λ d. first_inside d item) (λ next. first_in_arguments c close next items) (step_as [] o) ≡ Some (misplaced item)) [
      | None ↦ refl
      | Some d ↦ refl
    ]

pub end-some : (tree : Item) (c : Class) (close : ℕ) (at : Option ℕ) (id : ℕ) (old new : Option RefusedAt) (ok : Bool) → at ≡ Some id → HasId tree id → ok ≡ false →
    new ≡ Some (misplaced (item_at tree id)) → Walked tree c close [] at old ok new
end-some tree c close at id old new ok e has denied fault = rw (denied, e, end-first c close (here tree id) has) fault

-- ---- two sets of classes

is_in-append : (fs bs : List Class) (o : Option Class) → is_in (fs ++ bs) o ≡ (is_in fs o || is_in bs o)
is_in-append fs bs None = refl
is_in-append fs bs (Some d) = list_any-append (λ e. sameb the_type e d) fs bs

neither : (p : Class) (fs bs : List Class) (item : Item) (old mid new : Option RefusedAt) → Answers p fs item old None mid → Answers p bs item mid None new → Answers p (fs ++ bs) item old None new
neither p fs bs item old mid new h k =
    (is_in-append fs bs (class_in p item) ∙ ap (λ b. b || is_in bs (class_in p item)) h.0 ∙ k.0, k.1 ∙ h.1)

pub the-first : (p : Class) (fs bs : List Class) (item : Item) (old new : Option RefusedAt) (ok : Bool) → Answers p fs item old (Some ok) new → Answers p (fs ++ bs) item old (Some ok) new
the-first p fs bs item old new ok (d, (is, (among, judged))) =
    (d, (is, (is_in-append fs bs (Some d) ∙ ap (λ b. b || is_in bs (Some d)) among, judged)))

the-second : (p : Class) (fs bs : List Class) (item : Item) (old mid new : Option RefusedAt) (ok : Bool) → Answers p fs item old None mid → Answers p bs item mid (Some ok) new →
    Answers p (fs ++ bs) item old (Some ok) new
the-second p fs bs item old mid new ok h (d, (is, (among, judged))) =
    (d, (is, (is_in-append fs bs (Some d) ∙ ap (λ b. is_in fs (Some d) || b) among ∙ or-true (is_in fs (Some d)), subst (λ o. Judged d item o ok new) h.1 judged)))

pub the-other : (p : Class) (fs bs : List Class) (item : Item) (old mid new : Option RefusedAt) (answer : Option Bool) → Answers p fs item old None mid → Answers p bs item mid answer new →
    Answers p (fs ++ bs) item old answer new
the-other p fs bs item old mid new None h k = neither p fs bs item old mid new h k
the-other p fs bs item old mid new (Some ok) h k = the-second p fs bs item old mid new ok h k

-- ---- one class

pub single-not : (p c : Class) (item : Item) (old : Option RefusedAt) → is_class c (class_in p item) ≡ false → Answers p (c ∷ []) item old None old
single-not p c item old e = (by (class_in p item) e, refl)
  where
    by : (o : Option Class) → is_class c o ≡ false → is_in (c ∷ []) o ≡ false
    by None nope = refl
    by (Some d) nope = ap (λ b. b || false) (false_same the_type (search rules) c d (λ e. same_false the_type d c nope (sym e)))

pub single-is : (p c : Class) (item : Item) (old new : Option RefusedAt) (ok : Bool) → is_class c (class_in p item) ≡ true → Judged c item old ok new → Answers p (c ∷ []) item old (Some ok) new
single-is p c item old new ok e judged = (c, (class-is c (class_in p item) e, (ap (λ b. b || false) (true_same the_type c c refl), judged)))

pub named-of : ((parent c : Class) (item : Item) → class_in parent item ≡ Some c → IsTrue (is_of c item)) → (p c : Class) (item : Item) → is_class c (class_in p item) ≡ true → is_of c item ≡ true
named-of law p c item e = law p c item (class-is c (class_in p item) e)

-- ---- whole items

-- an item that is no node, of a class that it may have
pub leaf-judged : (c : Class) (item : Item) (old : Option RefusedAt) → is_of c item ≡ true → close_of item ≡ None → Judged c item old true old
unfolding first_inside
leaf-judged c (leaf kind place raw) old e f =
    let P : Option RefusedAt → Type 0 = λ w. Gives w old (λ f. ⊥) true old in
    subst P (by (is_of c (leaf kind place raw)) e) (least-alone old)
  where
    by : (b : Bool) → b ≡ true → None ≡ (if b then None else Some (misplaced (leaf kind place raw)))
    by true h = refl
    by false h = cc
leaf-judged c (node place keyword square first others close) old e f = cc

arguments-fault : (c : Class) (item : Item) (close : ℕ) → is_of c item ≡ true → close_of item ≡ Some close → first_in_arguments c close (slots_of c) (arguments item) ≡ first_inside c item
unfolding first_inside first_in_arguments
arguments-fault c (leaf kind place raw) close e f = cc
arguments-fault c (node place keyword square first others end) close e f =
    let same : end ≡ close = cc in
    rw (e, same) refl

-- the arguments are judged from the first on
abbrev pub WalkedAll : Class → Item → Option RefusedAt → Bool → Option RefusedAt → Type 0
WalkedAll c item old ok new = Gives (first_inside c item) old (BreaksAmong c (arguments item)) ok new

pub walked-all : (tree : Item) (c : Class) (close : ℕ) (slots : List SlotParts) (item : Item) (start : Option ℕ) (old new : Option RefusedAt) (r ok : Bool) → is_of c item ≡ true →
    close_of item ≡ Some close → IsAt tree (arguments item) start → slots_of c ≡ slots → r ≡ ok → Walked tree c close slots start old r new → WalkedAll c item old ok new
walked-all tree c close slots item start old new r ok e f at same is h =
    rw (← arguments-fault c item close e f, same, ← is, ← ahead_at tree (arguments item) start at) h

node-breaks : (c : Class) (item : Item) (close : ℕ) → close_of item ≡ Some close → (f : RefusedAt) → Breaks c item f ↔ (BreaksAmong c (arguments item) f ⊎ Own c item f)
node-breaks c (leaf kind place raw) close e f = cc
node-breaks c (node place keyword square first others end) close e f = (⊎_elim (λ h. inr h) (λ h. inl h), ⊎_elim (λ h. inr h) (λ h. inl h))

-- what a node breaks, with what was found before
joined-least : (c : Class) (item : Item) (close : ℕ) (old new : Option RefusedAt) → close_of item ≡ Some close →
    IsLeast (λ g. (old ≡ Some g) ⊎ (BreaksAmong c (arguments item) g ⊎ Own c item g)) new → IsLeast (λ g. (old ≡ Some g) ⊎ Breaks c item g) new
joined-least c item close old new f h =
    least-beside (λ g. old ≡ Some g) (λ g. BreaksAmong c (arguments item) g ⊎ Own c item g) (Breaks c item) new (λ g. (node-breaks c item close f g).1) (λ g. (node-breaks c item close f g).0) h

-- no fault of shape: what the node breaks by itself joins what its arguments break
pub with-own : (c : Class) (item : Item) (close : ℕ) (old mid own new : Option RefusedAt) → close_of item ≡ Some close → WalkedAll c item old true mid → IsLeast (Own c item) own →
    new ≡ lesser mid own → Judged c item old true new
with-own c item close old mid own new f walked least is =
    let t = gives-true (first_inside c item) old mid (BreaksAmong c (arguments item)) walked in
    let all = least-either (λ g. mid ≡ Some g) (Own c item) mid own (old-least mid) least in
    rw (t.0, is) (joined-least c item close old (lesser mid own) f (least-on (BreaksAmong c (arguments item)) (Own c item) old mid (lesser mid own) t.1 all))

-- a fault of shape in an argument is the node's
pub with-fault : (c : Class) (item : Item) (old before mid : Option RefusedAt) → WalkedAll c item before false mid → Judged c item old false mid
with-fault c item old before mid walked = by (first_inside c item) walked
  where
    by : (w : Option RefusedAt) → Gives w before (BreaksAmong c (arguments item)) false mid → Gives w old (Breaks c item) false mid
    by (Some fault) h = h
    by None h = absurd h

-- without a fault of shape the node is shaped
pub shaped-by : ((c : Class) (item : Item) → first_inside c item ≡ None → Shaped c item) → (c : Class) (item : Item) (old mid : Option RefusedAt) → WalkedAll c item old true mid → Shaped c item
shaped-by law c item old mid walked = law c item (gives-true (first_inside c item) old mid (BreaksAmong c (arguments item)) walked).0

-- ---- a CRS, whose checks are made with what is broken within it

-- the least of what is broken where nothing was found before
pub fresh-least : (B : RefusedAt → Type 0) (o : Option RefusedAt) → IsLeast (λ f. (None ≡ Some f) ⊎ B f) o → IsLeast B o
fresh-least B o h = least-same (λ f. (None ≡ Some f) ⊎ B f) B o (λ f. ⊎_elim (λ e. cc) (λ k. k)) (λ f k. inr k) h

pub inside-least : (c : Class) (item : Item) (inside : Option RefusedAt) → WalkedAll c item None true inside → IsLeast (BreaksAmong c (arguments item)) inside
inside-least c item inside walked =
    fresh-least (BreaksAmong c (arguments item)) inside (gives-true (first_inside c item) None inside (BreaksAmong c (arguments item)) walked).1

pub with-whole : (c : Class) (item : Item) (close : ℕ) (old inside whole new : Option RefusedAt) → close_of item ≡ Some close → WalkedAll c item None true inside →
    IsLeast (λ f. BreaksAmong c (arguments item) f ⊎ Own c item f) whole → new ≡ lesser old whole → Judged c item old true new
with-whole c item close old inside whole new f walked least is =
    rw ((gives-true (first_inside c item) None inside (BreaksAmong c (arguments item)) walked).0, is)
    (joined-least c item close old (lesser old whole) f
    (least-either (λ g. old ≡ Some g) (λ g. BreaksAmong c (arguments item) g ⊎ Own c item g) old whole (old-least old) least))
