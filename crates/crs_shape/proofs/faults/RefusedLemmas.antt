-- A refusal of shape and what could come there.
use Rattle.std.proofs.Common.{◌≡◌, ℕ, true, false, inl, inr, ◌⊎◌, Some, None, List, [], ◌∷◌, ◌++◌, refl, sym, ◌∙◌, ap, subst}
use Rattle.std.specs.Cmp.{both_ways}
use Rattle.std.proofs.lemmas.Bool.{false_from_ne_true, true≢false}
use Rattle.std.proofs.lemmas.Option.{none-some, same_Some}
use Rattle.crs_text.specs.inner.Prelude.{Item, leaf, node, Siblings, End, More, RefusedAt}
use Rattle.crs_shape.specs.declared.class.Class.{Class}
use Rattle.crs_shape.specs.ShapeFault.{class_in, is_of, misplaced, missing, IsFree, Stands, Inside, Among, class_of_root, AtRoot}
use Rattle.crs_shape.specs.Expected.{ExpectedParts, may_come, Follows, ExpectedIn, ExpectedAmong, ExpectedAtRoot, IsWithin, IsWithinAny, class_at, IsRefusedThere, AreAlike}
use Rattle.crs_shape.proofs.faults.FaultLemmas.{same_class}
use Rattle.crs_shape.proofs.faults.FitLemmas.{class-is_of, root-is_of}

-- ---- where something could come, there is a fault

mutual
  some_inside : (c : Class) (item : Item) (e : ExpectedParts) → is_of c item ≡ true → ExpectedIn c item e → (fault : RefusedAt) × Inside c item fault
  some_inside c (leaf kind place raw) e is x = absurd x
  some_inside c (node place keyword square first others close) e is (inl (none, follows)) =
      (misplaced first, inr (is, inl (none, refl)))
  some_inside c (node place keyword square first others close) e is (inr (d, (stands, inl within))) =
      let (fault, inner) = some_inside d first e (class-is_of c d first stands.named) within in
      (fault, inr (is, inr (d, (stands, inl inner))))
  some_inside c (node place keyword square first others close) e is (inr (d, (stands, inr (free, later)))) =
      let (fault, after) = some_among c place close (d ∷ []) others e later in
      (fault, inr (is, inr (d, (stands, inr (free, after)))))

  some_among : (c : Class) (place close : ℕ) (before : List Class) (items : Siblings) (e : ExpectedParts) → ExpectedAmong c place before items e → (fault : RefusedAt) × Among c close before items fault
  some_among c place close before End e (refused, follows) = (missing close, (refused, refl))
  some_among c place close before (More item items) e (inl (none, follows)) = (misplaced item, inl (none, refl))
  some_among c place close before (More item items) e (inr (d, (stands, inl within))) =
      let (fault, inner) = some_inside d item e (class-is_of c d item stands.named) within in
      (fault, inr (d, (stands, inl inner)))
  some_among c place close before (More item items) e (inr (d, (stands, inr (free, later)))) =
      let (fault, after) = some_among c place close (before ++ d ∷ []) items e later in
      (fault, inr (d, (stands, inr (free, after))))

-- so nothing could come in an item without a fault
not_free : (parent c : Class) (before : List Class) (item : Item) (e : ExpectedParts) → Stands parent before item c → IsFree (Inside c item) → ExpectedIn c item e → ⊥
not_free parent c before item e stands free x = let (fault, inside) = some_inside c item e (class-is_of parent c item stands.named) x in free fault inside

-- Where two things are said of one argument, both say that it isn't allowed there, or both are about what is inside, or
-- both about what is after: it stands there as one class, and is free inside or isn't.
at_both : (parent : Class) (before : List Class) (item : Item) {Own Other : Type 0} {Within Inner Free Clear Later After : Class → Type 0} (Goal : Type 0) →
    (((c : Class) → Stands parent before item c → ⊥) → Own → Other → Goal) → ((c : Class) → Stands parent before item c → Within c → Inner c → Goal) →
    ((c : Class) → Stands parent before item c → Within c → Clear c → ⊥) → ((c : Class) → Stands parent before item c → Free c → Inner c → ⊥) →
    ((c : Class) → Stands parent before item c → Later c → After c → Goal) →
    (((c : Class) → Stands parent before item c → ⊥) × Own) ⊎ ((c : Class) × (Stands parent before item c × (Within c ⊎ (Free c × Later c)))) →
    (((c : Class) → Stands parent before item c → ⊥) × Other) ⊎ ((c : Class) × (Stands parent before item c × (Inner c ⊎ (Clear c × After c)))) → Goal
at_both parent before item Goal own within left right later (inl (none, x)) (inl (neither, y)) = own none x y
at_both parent before item Goal own within left right later (inl (none, x)) (inr (d, (stands, y))) = absurd (none d stands)
at_both parent before item Goal own within left right later (inr (c, (stands, x))) (inl (none, y)) = absurd (none c stands)
at_both parent before item {Within = Within} {Inner = Inner} {Free = Free} {Clear = Clear} {Later = Later} {After = After} Goal own within left right later (inr (c, (stands, x))) (inr (d, (other, y))) =
    both x (subst (λ k. Inner k ⊎ (Clear k × After k)) (same_class parent before item c d stands.named other) y)
  where
    both : Within c ⊎ (Free c × Later c) → Inner c ⊎ (Clear c × After c) → Goal
    both (inl x) (inl y) = within c stands x y
    both (inl x) (inr (clear, y)) = absurd (left c stands x clear)
    both (inr (free, x)) (inl y) = absurd (right c stands free y)
    both (inr (free, x)) (inr (clear, y)) = later c stands x y

-- ---- the answer is one

alike_there : (parent : Class) (place : ℕ) (before : List Class) (a b : ExpectedParts) → Follows parent place before a → Follows parent place before b → AreAlike a b
alike_there parent place before a b x y = record {
  parent = x.is_parent ∙ sym y.is_parent;
  place = x.is_place ∙ sym y.is_place;
  classes = λ c. both_ways (may_come a c) (may_come b c) (λ t. (y.classes c).1 ((x.classes c).0 t)) (λ t. (x.classes c).1 ((y.classes c).0 t));
  may_end = both_ways a.may_end b.may_end (λ t. y.may_end.1 (x.may_end.0 t)) (λ t. x.may_end.1 (y.may_end.0 t));
}

mutual
  alike_inside : (c : Class) (item : Item) (a b : ExpectedParts) → ExpectedIn c item a → ExpectedIn c item b → AreAlike a b
  alike_inside c (leaf kind place raw) a b x y = absurd x
  alike_inside c (node place keyword square first others close) a b x y =
      at_both c [] first (AreAlike a b) (λ none. alike_there c place [] a b) (λ d stands. alike_inside d first a b)
      (λ d stands within free. not_free c d [] first a stands free within) (λ d. not_free c d [] first b)
      (λ d stands. alike_among c place (d ∷ []) others a b) x y

  alike_among : (c : Class) (place : ℕ) (before : List Class) (items : Siblings) (a b : ExpectedParts) → ExpectedAmong c place before items a → ExpectedAmong c place before items b → AreAlike a b
  alike_among c place before End a b x y = alike_there c place before a b x.1 y.1
  alike_among c place before (More item items) a b x y =
      at_both c before item (AreAlike a b) (λ none. alike_there c place before a b) (λ d stands. alike_inside d item a b)
      (λ d stands within free. not_free c d before item a stands free within) (λ d. not_free c d before item b)
      (λ d stands. alike_among c place (before ++ d ∷ []) items a b) x y

-- Where two things are said of a text, both say that its head has no class, or both are about what is in a node of one class.
root_both : (item : Item) {Own Other : Type 0} {Within Inner : Class → Type 0} (Goal : Type 0) → (class_of_root item ≡ None → Own → Other → Goal) →
    ((c : Class) → class_of_root item ≡ Some c → Within c → Inner c → Goal) →
    ((class_of_root item ≡ None) × Own) ⊎ ((c : Class) × ((class_of_root item ≡ Some c) × Within c)) →
    ((class_of_root item ≡ None) × Other) ⊎ ((c : Class) × ((class_of_root item ≡ Some c) × Inner c)) → Goal
root_both item Goal own within (inl (none, x)) (inl (neither, y)) = own none x y
root_both item Goal own within (inl (none, x)) (inr (d, (some, y))) = absurd (none-some d (sym none ∙ some))
root_both item Goal own within (inr (c, (some, x))) (inl (none, y)) = absurd (none-some c (sym none ∙ some))
root_both item {Inner = Inner} Goal own within (inr (c, (some, x))) (inr (d, (other, y))) =
    within c some x (subst Inner (same_Some d c (sym other ∙ some)) y)

pub alike_at_root : (item : Item) (a b : ExpectedParts) → ExpectedAtRoot item a → ExpectedAtRoot item b → AreAlike a b
alike_at_root item a b =
    root_both item (AreAlike a b) (λ none x y. subst (AreAlike a) (x ∙ sym y) (record { parent = refl; place = refl; classes = λ c. refl; may_end = refl }))
    (λ c some. alike_inside c item a b)

-- ---- the refused item

-- an argument that isn't allowed there
refused_here : (parent : Class) (place : ℕ) (before : List Class) (item : Item) (e : ExpectedParts) → ((d : Class) → Stands parent before item d → ⊥) → Follows parent place before e →
    (c : Class) → class_at e.parent item ≡ Some c → may_come e c ≡ false
refused_here parent place before item e none follows c named =
    let is : class_in parent item ≡ Some c = ap (λ o. class_at o item) (sym follows.is_parent) ∙ named in
    false_from_ne_true (may_come e c) (λ t. none c (record { named = is; begins = (follows.classes c).0 t }))

-- the refused item is among some, or the node lacks an argument
abbrev IsRefusedIn : (Item → Type 0) → RefusedAt → ExpectedParts → Type 0
IsRefusedIn Within fault e =
    ((found : Item) × (Within found × (fault ≡ misplaced found)
    × ((c : Class) → class_at e.parent found ≡ Some c → may_come e c ≡ false)))
    ⊎ ((fault.number ≡ 13) × (e.may_end ≡ false))

-- a refused item of an argument, or of those after it, is one of the whole
outwards : (Within Wider : Item → Type 0) (fault : RefusedAt) (e : ExpectedParts) → ((found : Item) → Within found → Wider found) → IsRefusedIn Within fault e → IsRefusedIn Wider fault e
outwards Within Wider fault e wider (inl (found, (within, is, rest))) = inl (found, (wider found within, is, rest))
outwards Within Wider fault e wider (inr x) = inr x

itself : (item : Item) → IsWithin item item
itself (leaf kind place raw) = refl
itself (node place keyword square first others close) = inl refl

mutual
  refused_inside : (c : Class) (item : Item) (fault : RefusedAt) (e : ExpectedParts) → is_of c item ≡ true → Inside c item fault → ExpectedIn c item e → IsRefusedThere item fault e
  refused_inside c (leaf kind place raw) fault e is x y = absurd y
  refused_inside c (node place keyword square first others close) fault e is (inl (other, x)) y = absurd (true≢false (sym is ∙ other))
  refused_inside c (node place keyword square first others close) fault e is (inr (same, x)) y =
      let item = node place keyword square first others close in
      at_both c [] first (IsRefusedThere item fault e) (λ none x y. inl (first, (inr (inl (itself first)), x, refused_here c place [] first e none y)))
      (λ d stands x y. outwards (IsWithin first) (IsWithin item) fault e (λ found within. inr (inl within)) (refused_inside d first fault e (class-is_of c d first stands.named) x y))
      (λ d stands within free. free fault within) (λ d. not_free c d [] first e)
      (λ d stands x y. outwards (IsWithinAny others) (IsWithin item) fault e (λ found within. inr (inr within)) (refused_among c place close (d ∷ []) others fault e x y))
      x y

  refused_among : (c : Class) (place close : ℕ) (before : List Class) (items : Siblings) (fault : RefusedAt) (e : ExpectedParts) →
      Among c close before items fault → ExpectedAmong c place before items e → IsRefusedIn (IsWithinAny items) fault e
  refused_among c place close before End fault e x y = inr (ap (λ z. z.number) x.1, false_from_ne_true e.may_end (λ t. x.0 (y.1.may_end.0 t)))
  refused_among c place close before (More item items) fault e x y =
      let Any : Item → Type 0 = IsWithinAny (More item items) in
      at_both c before item (IsRefusedIn Any fault e) (λ none x y. inl (item, (inl (itself item), x, refused_here c place before item e none y)))
      (λ d stands x y. outwards (IsWithin item) Any fault e (λ found within. inl within) (refused_inside d item fault e (class-is_of c d item stands.named) x y))
      (λ d stands within free. free fault within) (λ d. not_free c d before item e)
      (λ d stands x y. outwards (IsWithinAny items) Any fault e (λ found within. inr within) (refused_among c place close (before ++ d ∷ []) items fault e x y))
      x y

pub refused_at_root : (item : Item) (fault : RefusedAt) (e : ExpectedParts) → AtRoot item fault → ExpectedAtRoot item e → IsRefusedThere item fault e
refused_at_root item fault e =
    root_both item (IsRefusedThere item fault e)
    (λ none x y. inl (item, (itself item, x, λ c named. absurd (none-some c (sym none ∙ ap (λ z. class_at z.parent item) (sym y) ∙ named)))))
    (λ c some. refused_inside c item fault e (root-is_of c item some))
