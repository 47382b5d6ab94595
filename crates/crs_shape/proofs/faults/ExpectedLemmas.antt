-- What could come at a fault of shape, as the loop over an item's arguments finds it.
use Rattle.std.proofs.Common.{◌≡◌, ℕ, ◌<◌, ◌↔◌, ⊎_elim, inl, inr, Bool, true, false, ◌&&◌, Option, Some, None, List, [], ◌∷◌, ◌++◌, drop, filter, map, refl, sym, ◌∙◌, ap, subst, arith, rules}
use Rattle.std.specs.List.{list_any}
use Rattle.std.proofs.Math.Bool.{and-true}
use Rattle.std.proofs.lemmas.Bool.{both_ways, true≢false}
use Rattle.std.proofs.lemmas.Map.Views.{any-filter_same}
use denote.Enum.Bare.{sameb, same_true}
use Rattle.crs_text.specs.inner.Prelude.{Item, leaf, node, More, arguments, first_of, rest_of, close_of, place_of, size_of, sizes, here, IsAt}
use Rattle.crs_shape.specs.contracts.class.Class.{the_type}
use Rattle.crs_shape.specs.declared.class.Class.{Class}
use Rattle.crs_shape.specs.declared.fitting.Walk.{Walk}
use Rattle.crs_shape.specs.declared.slot.Slot.{Slot}
use Rattle.crs_shape.specs.Keywords.{every_class}
use Rattle.crs_shape.specs.Shape.{SlotParts, shown, slots_of, Begins}
use Rattle.crs_shape.specs.inner.Walk.{left, left_of, after, may_end, step_of, has_some, may_go, slots_left, classes_left, end_left}
use Rattle.crs_shape.specs.ShapeFault.{is_of, IsFree, Stands, Inside, Among}
use Rattle.crs_shape.specs.Expected.{ExpectedParts, Follows, ExpectedIn, ExpectedAmong}
use Rattle.crs_shape.proofs.naming.KeywordTableLemmas.{class-among}
use Rattle.crs_shape.proofs.walks.TableLemmas.{apart_tables}
use Rattle.crs_shape.proofs.faults.FaultLemmas.{Reached, reached-start, reached-more, reached-begins, reached-not, none_stands, step_stands, exact-free, end-allows}
use Rattle.crs_shape.proofs.faults.FitLemmas.{from, HasNext, from_at, has_at, arguments-less, rest-less, step_class, step-is_of, by_more}

-- ---- the classes

-- the classes that a test takes from all classes are those that pass it
pub among-passing : (p : Class → Bool) (c : Class) → list_any (λ d. sameb the_type d c) (filter p every_class) ≡ p c
among-passing p c =
    any-filter_same (λ d. sameb the_type d c) p (p c) (λ d e. ap p (same_true the_type (search rules) d c e)) every_class
    ∙ ap (λ b. p c && b) (class-among c) ∙ and-true (p c)

-- a class may go exactly where an allowed list goes on with it
may_go-begins : (row : List SlotParts) (before : List Class) (slots : List SlotParts) (c : Class) → Reached row before slots → (may_go slots c ≡ true) ↔ Begins row (before ++ c ∷ [])
may_go-begins row before slots c r =
    elim (after slots c) as (λ o. after slots c ≡ o → (has_some o ≡ true) ↔ Begins row (before ++ c ∷ [])) [
      | None ↦ λ f. ((λ g. cc), λ b. absurd (reached-not row before slots c r f b))
      | Some next ↦ λ f. ((λ g. reached-begins row before slots next c r f), λ b. refl)
    ] refl

-- what is answered for a walk that has come so far
pub follows : (parent : Class) (place : ℕ) (before : List Class) (slots : List SlotParts) → Reached (slots_of parent) before slots → (e : ExpectedParts) →
    e ≡ record { parent = Some parent; place = place; classes = filter (may_go slots) every_class; may_end = may_end slots } → Follows parent place before e
follows parent place before slots r e is = subst (Follows parent place before) (sym is) (record {
  is_parent = refl;
  is_place = refl;
  classes = λ c. rw (among-passing (may_go slots) c) (may_go-begins (slots_of parent) before slots c r);
  may_end = end-allows (slots_of parent) before slots r;
})

-- ---- the loop

-- what the loop keeps: what is free of faults from the next argument on leaves the item free, and
-- what could come at the fault there could come at that of the item
pub record Going (tree : Item) (class : Class) (item : Item) (slots : List SlotParts) (next : Option ℕ) : Type 0 where
  pub close : ℕ
  pub before : List Class
  pub reached : Reached (slots_of class) before slots
  pub free : IsFree (Among class close before (from tree next)) → IsFree (Inside class item)
  pub found : (e : ExpectedParts) → ExpectedAmong class (place_of item) before (from tree next) e → ExpectedIn class item e
  pub has : HasNext tree next
  pub less : sizes (from tree next) < size_of item

pub going_first : (tree : Item) (c : Class) (item : Item) (close : ℕ) (next : Option ℕ) → is_of c item ≡ true → close_of item ≡ Some close →
    IsAt tree (arguments item) next → Going tree c item (slots_of c) next
going_first tree c (leaf kind place raw) close next e f at = cc
going_first tree c (node place keyword square first others end) close next e f at =
    let same = from_at tree (More first others) next at in
    let item = node place keyword square first others end in
    record {
      close = end;
      before = [];
      reached = reached-start (slots_of c) (apart_tables c);
      free = λ free fault. ⊎_elim (λ x. true≢false (sym e ∙ x.0)) (λ x. subst (λ z. IsFree (Among c end [] z)) same free fault x.1);
      found = λ e h. subst (λ z. ExpectedAmong c place [] z e) same h;
      has = has_at tree (More first others) next at;
      less = let n : sizes (from tree next) ≡ sizes (More first others) = ap sizes same in omega (arith, n, arguments-less item);
    }

-- an argument and those after it

module _ (tree : Item) (c : Class) (item : Item) (slots : List SlotParts) (id : ℕ) (going : Going tree c item slots (Some id)) where
  found-here : (e : ExpectedParts) → ExpectedAmong c (place_of item) going.before (More (first_of (here tree id)) (rest_of (here tree id))) e → ExpectedIn c item e
  found-here e h = going.found e (subst (λ z. ExpectedAmong c (place_of item) going.before z e) (by_more (here tree id) going.has) h)

  -- an argument that isn't allowed there
  pub going_wrong : (e : ExpectedParts) → None ≡ step_of c slots (first_of (here tree id)) →
      e ≡ record { parent = Some c; place = place_of item; classes = filter (may_go slots) every_class; may_end = may_end slots } → ExpectedIn c item e
  going_wrong e none is =
      found-here e
      (inl (
        none_stands c going.before slots (first_of (here tree id)) going.reached none,
        follows c (place_of item) going.before slots going.reached e is,
      ))

  module _ (named : Class) (later : List SlotParts) (step : Some (named, later) ≡ step_of c slots (first_of (here tree id))) where
    stands : Stands c going.before (first_of (here tree id)) named
    stands = step_stands c named going.before slots later (first_of (here tree id)) going.reached step

    pub going_class : is_of named (first_of (here tree id)) ≡ true
    going_class = step-is_of c named slots later (first_of (here tree id)) step

    -- an argument with a fault inside
    pub going_inside : (e : ExpectedParts) → ExpectedIn named (first_of (here tree id)) e → ExpectedIn c item e
    going_inside e h = found-here e (inr (named, (stands, inl h)))

    -- an argument without
    pub going_on : (next : Option ℕ) → IsFree (Inside named (first_of (here tree id))) → IsAt tree (rest_of (here tree id)) next → Going tree c item later next
    going_on next free at =
        let same = from_at tree (rest_of (here tree id)) next at in
        record {
          close = going.close;
          before = going.before ++ named ∷ [];
          reached = reached-more (slots_of c) going.before slots later named going.reached (step_class c named slots later (first_of (here tree id)) step).1;
          free = λ h. going.free
              (subst (λ z. IsFree (Among c going.close going.before z)) (by_more (here tree id) going.has)
              (exact-free c going.before (first_of (here tree id)) (λ x f. Inside x (first_of (here tree id)) f) (λ b f. Among c going.close b (rest_of (here tree id)) f) named stands free
              (subst (λ z. IsFree (Among c going.close (going.before ++ named ∷ []) z)) same h)));
          found = λ e h. found-here e (inr (named, (stands, inr (free, subst (λ z. ExpectedAmong c (place_of item) (going.before ++ named ∷ []) z e) same h))));
          has = has_at tree (rest_of (here tree id)) next at;
          less = omega (arith, rest-less tree id next going.has at, going.less);
        }

-- all arguments are allowed

pub going_end : (tree : Item) (c : Class) (item : Item) (slots : List SlotParts) (b : Bool) → Going tree c item slots None → b ≡ may_end slots → b ≡ true → IsFree (Inside c item)
going_end tree c item slots b going e t = going.free (λ fault h. h.0 ((end-allows (slots_of c) going.before slots going.reached).0 (sym e ∙ t)))

pub going_short : (tree : Item) (c : Class) (item : Item) (slots : List SlotParts) (b : Bool) (e : ExpectedParts) → Going tree c item slots None → b ≡ may_end slots → b ≡ false →
    e ≡ record { parent = Some c; place = place_of item; classes = filter (may_go slots) every_class; may_end = may_end slots } → ExpectedIn c item e
going_short tree c item slots b e going k f is =
    going.found e ((λ h. both_ways _ (sym k ∙ f) ((end-allows (slots_of c) going.before slots going.reached).1 h)), follows c (place_of item) going.before slots going.reached e is)

-- what is answered, by the slots that are left in the row
pub answered : (c : Class) (row : List Slot) (walk : Walk) (place other : ℕ) (e : ExpectedParts) → map shown row ≡ slots_of c → other ≡ place →
    e ≡ record { parent = Some c; place = other; classes = classes_left (Some c) walk; may_end = end_left (Some c) walk } →
    e ≡ record { parent = Some c; place = place; classes = filter (may_go (left_of row walk)) every_class; may_end = may_end (left_of row walk) }
answered c row walk place other e slots same is =
    let P : List SlotParts → ℕ → Type 0 = λ ss p. e ≡ record { parent = Some c; place = p; classes = filter (may_go (left walk.filled (drop walk.at ss))) every_class; may_end = may_end (left walk.filled (drop walk.at ss)) } in
    subst (λ ss. P ss place) (sym slots) (subst (P (slots_of c)) same is)

-- a class may come where the walk may go with it
pub comes : (other : Option Class) (parent c : Class) (walk : Walk) (classes : List Class) → other ≡ Some parent → classes_left other walk ≡ classes →
    may_go (slots_left parent walk) c ≡ list_any (λ d. sameb the_type d c) classes
comes other parent c walk classes e same =
    sym (among-passing (may_go (slots_left parent walk)) c)
    ∙ ap (list_any (λ d. sameb the_type d c)) (sym (ap (λ o. classes_left o walk) e) ∙ same)
