-- A shaped node slot by slot: the arguments in each slot, and how those of a class are found among them.
use Rattle.std.proofs.Common.{◌≡◌, ℕ, zero, suc, ◌≤◌, ◌||◌, length, Bool, true, false, true≢false, IsTrue, IsFalse, Some, List, [], ◌∷◌, ◌++◌, if◌then◌else◌, refl, sym, ◌∙◌, ap, subst, arith, rules, Option, None}
use Rattle.std.proofs.lemmas.List.{append-nil}
use denote.Enum.Bare.{sameb, same_true}
use Rattle.crs_text.specs.inner.Prelude.{Item, Siblings, End, More}
use Rattle.crs_shape.specs.contracts.class.Class.{the_type}
use Rattle.crs_shape.specs.declared.class.Class.{Class}
use Rattle.crs_shape.specs.inner.Prelude.{AllTaken, Fills, AllFilled, joined, Allowed, Shaped, AreShaped, class_in, SlotParts, optional_of, slots_of, takes, is_class, first_named, is_keyword, is_one_of, keywords_of, class_named, named_in}
use Rattle.crs_value.specs.inner.Prelude.{is_a, those}
use Rattle.crs_normal.proofs.WithoutPlaces.{without_places, all_without_places}
use Rattle.crs_value.specs.Sound.{Each}

-- these items, and others after them
abbrev pub onto : List Item → Siblings → Siblings
onto [] rest = rest
onto (item ∷ items) rest = More item (onto items rest)

abbrev pub without_places_onto : List Item → Siblings → Siblings
without_places_onto [] rest = rest
without_places_onto (item ∷ items) rest = More (without_places item) (without_places_onto items rest)

pub without_places-onto : (front : List Item) (rest : Siblings) → all_without_places (onto front rest) ≡ without_places_onto front (all_without_places rest)
without_places-onto [] rest = refl
without_places-onto (item ∷ items) rest = ap (More (without_places item)) (without_places-onto items rest)

-- ---- the arguments in a slot

pub record InSlot (c : Class) (slot : SlotParts) (item : Item) : Type 0 where
  pub at : Class
  pub named : class_in c item ≡ Some at
  pub shaped : Shaped at item
  pub taken : takes slot at ≡ true

pub record Front (c : Class) (slot : SlotParts) (front : List Item) : Type 0 where
  pub inside : Each (InSlot c slot) front
  pub enough : IsTrue slot.required → 1 ≤ length front
  pub not_more : IsFalse slot.many → length front ≤ 1

-- the items in each slot
abbrev pub View : Class → List SlotParts → Siblings → Type 0
View c [] items = items ≡ End
View c (slot ∷ slots) items =
    (front : List Item) × ((rest : Siblings) × (Front c slot front × ((items ≡ onto front rest) × View c slots rest)))

-- the items of a run of classes, and those after it
record Run (c : Class) (slot : SlotParts) (run after : List Class) (items : Siblings) : Type 0 where
  front : List Item
  rest : Siblings
  are : items ≡ onto front rest
  inside : Each (InSlot c slot) front
  many : length front ≡ length run
  shaped : AreShaped c after rest

cut : (c : Class) (slot : SlotParts) (run after : List Class) (items : Siblings) → AllTaken slot run →
    AreShaped c (run ++ after) items →
    Run c slot run after items
cut c slot [] after items taken shaped =
    record { front = []; rest = items; are = refl; inside = tt; many = refl; shaped = shaped }
cut c slot (d ∷ run) after End taken shaped = absurd shaped
cut c slot (d ∷ run) after (More item items) taken shaped =
    let r = cut c slot run after items taken.1 shaped.1.1 in
    record {
      front = item ∷ r.front;
      rest = r.rest;
      are = ap (More item) r.are;
      inside = (record { at = d; named = shaped.0; shaped = shaped.1.0; taken = taken.0 }, r.inside);
      many = ap suc r.many;
      shaped = r.shaped;
    }

none-left : (c : Class) (items : Siblings) → AreShaped c [] items → items ≡ End
none-left c End shaped = refl
none-left c (More item items) shaped = absurd shaped

view-of : (c : Class) (slots : List SlotParts) (runs : List (List Class)) (items : Siblings) → AllFilled slots runs →
    AreShaped c (joined runs) items → View c slots items
view-of c [] [] items fit shaped = none-left c items shaped
view-of c [] (run ∷ runs) items fit shaped = absurd fit
view-of c (slot ∷ slots) [] items fit shaped = absurd fit
view-of c (slot ∷ slots) (run ∷ runs) items fit shaped =
    let fills = fit.0 in
    let r = cut c slot run (joined runs) items fills.taken shaped in
    (r.front, (r.rest, (front fills r, (r.are, view-of c slots runs r.rest fit.1 r.shaped))))
  where
    front : (fills : Fills slot run) (r : Run c slot run (joined runs) items) → Front c slot r.front
    front fills r = record {
      inside = r.inside;
      enough = λ e. let h = fills.enough e in omega arith;
      not_more = λ e. let h = fills.not_more e in omega arith;
    }

pub view : (c : Class) (classes : List Class) (items : Siblings) → Allowed (slots_of c) classes →
    AreShaped c classes items →
    View c (slots_of c) items
view c classes items allowed shaped =
    let P : List Class → Type 0 = λ ds. AreShaped c ds items in
    view-of c (slots_of c) allowed.0 items allowed.1.0 (subst P allowed.1.1 shaped)

-- ---- all slots, written one after another

abbrev pub spread : (c : Class) (slots : List SlotParts) (items : Siblings) → View c slots items → Siblings
spread c [] items v = End
spread c (slot ∷ slots) items v = without_places_onto v.0 (spread c slots v.1.0 v.1.1.1.1)

pub without_places-spread : (c : Class) (slots : List SlotParts) (items : Siblings) (v : View c slots items) →
    all_without_places items ≡ spread c slots items v
without_places-spread c [] items v = ap all_without_places v
without_places-spread c (slot ∷ slots) items v =
    ap all_without_places v.1.1.1.0 ∙ without_places-onto v.0 v.1.0 ∙ ap (without_places_onto v.0) (without_places-spread c slots v.1.0 v.1.1.1.1)

abbrev pub rebuilt : (c : Class) (slots : List SlotParts) (items : Siblings) → View c slots items → Siblings
rebuilt c [] items v = End
rebuilt c (slot ∷ slots) items v = onto v.0 (rebuilt c slots v.1.0 v.1.1.1.1)

pub items-rebuilt : (c : Class) (slots : List SlotParts) (items : Siblings) (v : View c slots items) →
    items ≡ rebuilt c slots items v
items-rebuilt c [] items v = v
items-rebuilt c (slot ∷ slots) items v = v.1.1.1.0 ∙ ap (onto v.0) (items-rebuilt c slots v.1.0 v.1.1.1.1)

-- the items in the slot at this position, from 0
abbrev pub front_at : (c : Class) (slots : List SlotParts) (items : Siblings) → View c slots items → ℕ → List Item
front_at c [] items v k = []
front_at c (slot ∷ slots) items v zero = v.0
front_at c (slot ∷ slots) items v (suc k) = front_at c slots v.1.0 v.1.1.1.1 k

abbrev pub slot_at : List SlotParts → ℕ → SlotParts
slot_at [] k = optional_of []
slot_at (slot ∷ slots) zero = slot
slot_at (slot ∷ slots) (suc k) = slot_at slots k

pub front-at : (c : Class) (slots : List SlotParts) (items : Siblings) (v : View c slots items) (k : ℕ) →
    Front c (slot_at slots k) (front_at c slots items v k)
front-at c [] items v k = record { inside = tt; enough = λ h. absurd (true≢false (sym h)); not_more = λ h. omega arith }
front-at c (slot ∷ slots) items v zero = v.1.1.0
front-at c (slot ∷ slots) items v (suc k) = front-at c slots v.1.0 v.1.1.1.1 k

-- ---- those of a class

abbrev pub and_then : List Item → List Item → List Item
and_then front [] = front
and_then front (item ∷ items) = front ++ (item ∷ items)

-- the items of this class in a slot: all, if it is of no other
abbrev pub chosen : Class → Class → List Class → List Item → List Item
chosen c d (e ∷ []) front = front
chosen c d others front = those c d (onto front End)

abbrev pub picked : Class → Class → SlotParts → List Item → List Item → List Item
picked c d slot front rest = if takes slot d then and_then (chosen c d slot.classes front) rest else rest

abbrev pub looked : (c d : Class) (slots : List SlotParts) (items : Siblings) → View c slots items → List Item
looked c d [] items v = []
looked c d (slot ∷ slots) items v = picked c d slot v.0 (looked c d slots v.1.0 v.1.1.1.1)

and_then-is : (front rest : List Item) → front ++ rest ≡ and_then front rest
and_then-is front [] = append-nil front
and_then-is front (item ∷ items) = refl

those-split : (c d : Class) (front : List Item) (rest : Siblings) →
    those c d (onto front rest) ≡ those c d (onto front End) ++ those c d rest
those-split c d [] rest = refl
those-split c d (item ∷ items) rest =
    elim (is_a c d item) as (λ b. (if b then item ∷ those c d (onto items rest) else those c d (onto items rest))
    ≡ (if b then item ∷ those c d (onto items End) else those c d (onto items End)) ++ those c d rest) [
      | true ↦ ap (λ xs. item ∷ xs) (those-split c d items rest)
      | false ↦ those-split c d items rest
    ]

pub all-those : (c d : Class) (front : List Item) → Each (λ item. is_a c d item ≡ true) front →
    those c d (onto front End) ≡ front
all-those c d [] h = refl
all-those c d (item ∷ items) h = rw (h.0, all-those c d items h.1)

pub none-those : (c d : Class) (front : List Item) → Each (λ item. is_a c d item ≡ false) front →
    those c d (onto front End) ≡ []
none-those c d [] h = refl
none-those c d (item ∷ items) h = rw h.0 (none-those c d items h.1)

pub each-so : {A : Type 0} (P Q : A → Type 0) → ((x : A) → P x → Q x) → (xs : List A) → Each P xs → Each Q xs
each-so P Q f [] h = tt
each-so P Q f (x ∷ xs) h = (f x h.0, each-so P Q f xs h.1)

pub both : {A : Type 0} {P Q R : A → Type 0} → ((x : A) → P x → Q x → R x) → (xs : List A) → Each P xs → Each Q xs →
    Each R xs
both f [] p q = tt
both f (x ∷ xs) p q = (f x p.0 q.0, both f xs p.1 q.1)

pub same_class : (d c : Class) → sameb the_type d c ≡ true → d ≡ c
same_class d c e = same_true the_type (search rules) d c e

-- what holds of all arguments, and so of each at its class, holds of those of a class
pub those-at : (c d : Class) (P : Class → Item → Type 0) (All : Siblings → Type 0) →
    ((item : Item) (items : Siblings) (e : Class) → class_in c item ≡ Some e → Shaped e item → All (More item items) →
    P e item × All items) → (classes : List Class) (items : Siblings) → AreShaped c classes items → All items →
    Each (P d) (those c d items)
those-at c d P All each classes End shaped all = tt
those-at c d P All each [] (More item items) shaped all = absurd shaped
those-at c d P All each (e ∷ es) (More item items) shaped all =
    let h = each item items e shaped.0 shaped.1.0 all in
    let rest = those-at c d P All each es items shaped.1.1 h.1 in
    elim (is_a c d item) as (λ b. is_a c d item ≡ b →
    Each (P d) (if b then item ∷ those c d items else those c d items)) [
      | true ↦ λ is. (subst (λ (x : Class). P x item) (same_class e d (sym (ap (is_class d) shaped.0) ∙ is)) h.0, rest)
      | false ↦ λ is. rest
    ] refl

not-of : (c d : Class) (slot : SlotParts) → takes slot d ≡ false → (item : Item) → InSlot c slot item →
    is_a c d item ≡ false
not-of c d slot none item s = rw s.named (by (sameb the_type s.at d) refl)
  where
    by : (b : Bool) → sameb the_type s.at d ≡ b → b ≡ false
    by true e = sym (subst (λ (x : Class). takes slot x ≡ true) (same_class s.at d e) s.taken) ∙ none
    by false e = refl

pub or-false : (b : Bool) → (b || false) ≡ true → b ≡ true
or-false true h = refl
or-false false h = h

pub of-one : (c d e : Class) (slot : SlotParts) → slot.classes ≡ e ∷ [] → takes slot d ≡ true → (item : Item) →
    InSlot c slot item → is_a c d item ≡ true
of-one c d e slot one h item s =
    let f = or-false (sameb the_type e d) (rw one at h) in
    let g = same_class e s.at (or-false (sameb the_type e s.at) (rw one at s.taken)) in rw (s.named, ← g) f

those-chosen : (c d : Class) (slot : SlotParts) (classes : List Class) (front : List Item) → slot.classes ≡ classes →
    takes slot d ≡ true → Front c slot front →
    those c d (onto front End) ≡ chosen c d classes front
those-chosen c d slot [] front e h f = refl
those-chosen c d slot (k ∷ []) front e h f =
    all-those c d front (each-so (InSlot c slot) (λ i. is_a c d i ≡ true) (of-one c d k slot e h) front f.inside)
those-chosen c d slot (k ∷ l ∷ ls) front e h f = refl

-- a slot that doesn't take a class has none of it
pub slot-lacks : (c d : Class) (slot : SlotParts) (front : List Item) → takes slot d ≡ false → Front c slot front →
    those c d (onto front End) ≡ []
slot-lacks c d slot front none f =
    none-those c d front (each-so (InSlot c slot) (λ i. is_a c d i ≡ false) (not-of c d slot none) front f.inside)

-- what is in a slot that doesn't take the class is none of those
those-picked : (c d : Class) (slot : SlotParts) (front : List Item) (rest : Siblings) → Front c slot front →
    those c d (onto front rest) ≡ picked c d slot front (those c d rest)
those-picked c d slot front rest f =
    those-split c d front rest
    ∙ (elim (takes slot d) as (λ b. takes slot d ≡ b → those c d (onto front End) ++ those c d rest
    ≡ (if b then and_then (chosen c d slot.classes front) (those c d rest) else those c d rest)) [
      | true ↦ λ e. ap (λ xs. xs ++ those c d rest) (those-chosen c d slot slot.classes front refl e f)
          ∙ and_then-is (chosen c d slot.classes front) (those c d rest)
      | false ↦ λ e. ap (λ xs. xs ++ those c d rest)
          (slot-lacks c d slot front e f)
    ] refl)

pub those-looked : (c d : Class) (slots : List SlotParts) (items : Siblings) (v : View c slots items) →
    those c d items ≡ looked c d slots items v
those-looked c d [] items v = ap (those c d) v
those-looked c d (slot ∷ slots) items v =
    ap (those c d) v.1.1.1.0 ∙ those-picked c d slot v.0 v.1.0 v.1.1.0
    ∙ ap (picked c d slot v.0) (those-looked c d slots v.1.0 v.1.1.1.1)

-- the item in a slot for one
pub alone : {c : Class} {slot : SlotParts} (front : List Item) → Front c slot front → IsTrue slot.required →
    IsFalse slot.many → (item : Item) × (front ≡ item ∷ [])
alone [] f required single = let h = f.enough required in absurd (omega arith)
alone (item ∷ []) f required single = (item, refl)
alone (item ∷ other ∷ others) f required single = let h = f.not_more single in absurd (omega arith)

-- ---- the class that a keyword names among the arguments of another, by computing

-- the first of these classes that has the word among its keywords
abbrev first_found : List Class → List ℕ → Option Class
first_found [] word = None
first_found (c ∷ cs) word = if is_one_of (keywords_of c) word then Some c else first_found cs word

first-named : (cs : List Class) (word : List ℕ) → first_named cs word ≡ first_found cs word
unfolding is_keyword
first-named [] word = refl
first-named (c ∷ cs) word = ap (λ o. if is_one_of (keywords_of c) word then Some c else o) (first-named cs word)

-- the class that is found among the slots
abbrev or_later : Option Class → Option Class → Option Class
or_later (Some c) later = Some c
or_later None later = later

abbrev found_in : List SlotParts → List ℕ → Option Class
found_in [] word = None
found_in (s ∷ ss) word = or_later (first_found s.classes word) (found_in ss word)

named-in : (ss : List SlotParts) (word : List ℕ) → named_in ss word ≡ found_in ss word
named-in [] word = refl
named-in (s ∷ ss) word =
    by (named-in ss word) (first_named s.classes word) refl
    ∙ ap (λ o. or_later o (found_in ss word)) (first-named s.classes word)
  where
    by : named_in ss word ≡ found_in ss word → (o : Option Class) → first_named s.classes word ≡ o →
        named_in (s ∷ ss) word ≡ or_later (first_named s.classes word) (found_in ss word)
    by rest (Some c) e = rw e refl
    by rest None e = rw e rest

pub keyword-names : (c : Class) (word : List ℕ) → class_named c word ≡ found_in (slots_of c) word
unfolding class_named
keyword-names c word = named-in (slots_of c) word
