-- A CRS whose parts were found by the walk for its shape: what is seen of its axes and of its coordinate system.
use Rattle.std.proofs.Common.{◌≡◌, ℕ, ◌+◌, length, true, false, Option, Some, None, List, [], ◌∷◌, ◌++◌, refl, sym, ◌∙◌, ap, subst, length-append, arith, Bool, not, append_assoc, ◌≤◌, IsTrue}
use Rattle.crs_text.specs.inner.Prelude.{Item, Siblings, End, More, arguments, rest_of, here, HasId, IsAt, RefusedAt}
use Rattle.crs_shape.specs.declared.system_type.SystemType.{SystemType}
use Rattle.crs_value.specs.declared.judging.quick_checks.AxesFacts.{AxesFacts}
use Rattle.crs_value.specs.declared.judging.quick_checks.AxisFacts.{AxisFacts}
use Rattle.crs_value.specs.Checks.{orders_in, units_in, Asks, BadOwnUnit, IsLeast, once, BreaksAmong, OfHead, RepeatsAny}
use Rattle.crs_value.specs.inner.Arguments.{AreInOrder, HasPlace, AllShaped, item_at, ahead, Holds, IsFound}
use Rattle.crs_value.specs.Reading.{Each, is_a, those, is_same}
use Rattle.crs_value.specs.inner.QuickChecks.{the_one, HasFacts, IsNoted, HaveFacts, are_free, is_head, is_tail, AreOrdered, IsLaid, PassesButDynamic, UnitsFit, IsBehindName, IsShaped}
use Rattle.crs_value.proofs.found.ArgumentLemmas.{each-on, ahead_at, all-shaped, arguments-shaped, each-both, holds_at, those-first, SlotsBound, arguments-few, nothing, first-shaped, class-is, those-later}
use Rattle.std.specs.List.{list_any}
use Rattle.std.proofs.lemmas.Bool.{and_parts, not-true, or_parts}
use Rattle.std.proofs.lemmas.List.{append-nil}
use Rattle.std.proofs.Math.Bool.{or-false}
use Rattle.crs_shape.specs.declared.class.Class.{Class}
use Rattle.crs_shape.specs.inner.Prelude.{dimensions_of, first_in_arguments, Shaped, SlotParts, takes, one, some, optional, is_bounded, most, class_in, slots_of, is_class}
use Rattle.crs_value.specs.declared.judging.quick_checks.Layout.{Layout}
use Rattle.crs_value.specs.inner.Judged.{AllLeave, Gives, Leaves, Walked}
use Rattle.crs_value.specs.Reads.{HasType, ReadsDirection}
use Rattle.crs_value.proofs.checked.CheckLemmas.{DenotesOne}
use Rattle.crs_value.proofs.walk.JudgedLemmas.{end-first, gives-true}
use Rattle.crs_value.proofs.checked.PlacedLemmas.{Symmetric, Transitive}
use Rattle.crs_value.proofs.walk.RestLemmas.{ordered-none, repeats-back, systems-none, units-none}
use Rattle.crs_shape.specs.declared.unit_kind.UnitKind.TheVariants as kinds
use Rattle.crs_shape.specs.declared.class.Class.TheVariants as class

-- ---- orders

in-order-on : (n : ℕ) (xs : List Item) (x : Item) → AreInOrder n xs → HasPlace (n + length xs) x → AreInOrder n (xs ++ x ∷ [])
in-order-on n [] x h p = let e : n + 0 ≡ n = omega arith in (subst (λ k. HasPlace k x) e p, tt)
in-order-on n (y ∷ ys) x h p =
    let e : n + length (y ∷ ys) ≡ n + 1 + length ys = omega arith in (h.0, in-order-on (n + 1) ys x h.1 (subst (λ k. HasPlace k x) e p))

-- ---- what is seen

pub seen-on : (tree : Item) (of : SystemType) (seen : AxisFacts) (old new : AxesFacts) (before : List Item) (x : Item) → IsNoted tree of seen old new → HasFacts tree x seen → HaveFacts of old before →
    HaveFacts of new (before ++ x ∷ [])
seen-on tree of seen old new before x noted has s = record {
  count = counted;
  placed = λ e. in-order-on 1 before x (s.placed (noted.placed e).0) (subst (λ k. HasPlace k x) next ((noted.placed e).1 x has.orders));
  none = λ e. each-on (λ a. orders_in a ≡ []) before x (s.none (noted.none e).0) (has.orders ∙ ap (the_one tree) (noted.none e).1);
  fit = λ e cs t. each-on (λ a. IsLeast (BadOwnUnit cs a) None) before x (s.fit (noted.fit e).0 cs t)
      ((noted.fit e).1 cs x (of, (seen.direction, (t, has.direction, refl))) has.units);
  free = λ e. each-on (λ a. units_in a ≡ []) before x (s.free (noted.free e).0) (has.units ∙ ap (the_one tree) (noted.free e).1);
  long = λ e cs t. each-on (λ a. Asks cs a kinds.Length) before x (s.long (noted.long e).0 cs t)
      (of, (seen.direction, (t, has.direction, sym (noted.long e).1)));
  turned = λ e cs t. each-on (λ a. Asks cs a kinds.Angle) before x (s.turned (noted.turned e).0 cs t)
      (of, (seen.direction, (t, has.direction, sym (noted.turned e).1)));
}
  where
    counted : new.count ≡ length (before ++ x ∷ [])
    counted = let e = length-append before (x ∷ []) in let k = noted.counted in let n = s.count in omega (arith, e, k, n)

    next : new.count ≡ 1 + length before
    next = let k = noted.counted in let n = s.count in omega (arith, k, n)

pub nothing-seen : (of : SystemType) → HaveFacts of (record {
  count = 0;
  orders_are_places = true;
  no_orders = true;
  own_units_fit = true;
  no_own_units = true;
  all_lengths = true;
  all_angles = true;
}) []
nothing-seen of = record { count = refl; placed = λ e. tt; none = λ e. tt; fit = λ e cs t. tt; free = λ e. tt; long = λ e cs t. tt; turned = λ e cs t. tt }

-- ---- a CRS whose parts were found by the walk for its shape: what is seen of its coordinate system

-- ---- where the parts of a CRS begin

free-of : (slots : List SlotParts) (ds : List Class) → are_free slots ds ≡ true → Each (λ d. list_any (λ s. takes s d) slots ≡ false) ds
free-of slots [] e = tt
free-of slots (d ∷ ds) e =
    let both = and_parts (not (list_any (λ s. takes s d) slots)) (are_free slots ds) e in
    (not-true (list_any (λ s. takes s d) slots) both.0, free-of slots ds both.1)

pub walked-as : (tree : Item) (c : Class) (close : ℕ) (slots : List SlotParts) (at : Option ℕ) (old new : Option RefusedAt) (ok is : Bool) → ok ≡ is → Walked tree c close slots at old ok new →
    Walked tree c close slots at old is new
walked-as tree c close slots at old new ok is e walked = let P : Bool → Type 0 = λ b. Walked tree c close slots at old b new in subst P e walked

-- nothing is behind slots that give no fault of shape
pub walked-end : (tree : Item) (c : Class) (close : ℕ) (at : Option ℕ) (old new : Option RefusedAt) (ok : Bool) → ok ≡ true → Walked tree c close [] at old ok new → ahead tree at ≡ End
walked-end tree c close at old new ok e walked = by (ahead tree at) (walked-as tree c close [] at old new ok true e walked)
  where
    by : (items : Siblings) → Gives (first_in_arguments c close [] items) old (BreaksAmong c items) true new → items ≡ End
    by End h = refl
    by (More item items) h =
        let none = (gives-true (first_in_arguments c close [] (More item items)) old new (BreaksAmong c (More item items)) h).0 in
        let some = end-first c close (More item items) (λ k. cc) in
        cc

pub laid-parts : (tree : Item) (c : Class) (front : List SlotParts) (tail : SlotParts) (at end : Option ℕ) (layout : Layout) → is_head front ≡ true → is_tail tail ≡ true →
    AllLeave tree c front at layout.system → Leaves tree c (one class.CoordinateSystem) layout.system layout.axes → Leaves tree c (some class.Axis) layout.axes layout.unit →
    Leaves tree c (optional class.AxisUnit) layout.unit layout.tail → Leaves tree c tail layout.tail end → ahead tree end ≡ End → IsLaid tree c (ahead tree at) layout
laid-parts tree c front tail at end layout head ends first past-system past-axes past-unit last none = record {
  system = first class.CoordinateSystem heads.0;
  no_system = past-axes class.CoordinateSystem refl ∙ past-unit class.CoordinateSystem refl ∙ behind class.CoordinateSystem tails.0;
  axes = first class.Axis heads.1.0 ∙ past-system class.Axis refl;
  no_axes = past-unit class.Axis refl ∙ behind class.Axis tails.1.0;
  unit = first class.AxisUnit heads.1.1.0 ∙ past-system class.AxisUnit refl ∙ past-axes class.AxisUnit refl;
  no_unit = behind class.AxisUnit tails.1.1.0;
  no_dynamic = past-system class.Dynamic refl ∙ past-axes class.Dynamic refl ∙ past-unit class.Dynamic refl ∙ behind class.Dynamic tails.1.1.1.0;
  single = each-both past once heads.1.1.1 (free-of (one class.CoordinateSystem ∷ some class.Axis ∷ optional class.AxisUnit ∷ []) once refl);
}
  where
    heads : Each (λ d. list_any (λ s. takes s d) front ≡ false) (class.CoordinateSystem ∷ class.Axis ∷ class.AxisUnit ∷ once)
    heads = free-of front (class.CoordinateSystem ∷ class.Axis ∷ class.AxisUnit ∷ once) head

    tails : Each (λ d. list_any (λ s. takes s d) (tail ∷ []) ≡ false) (class.CoordinateSystem ∷ class.Axis ∷ class.AxisUnit ∷ class.Dynamic ∷ [])
    tails = free-of (tail ∷ []) (class.CoordinateSystem ∷ class.Axis ∷ class.AxisUnit ∷ class.Dynamic ∷ []) ends

    behind : (d : Class) → list_any (λ s. takes s d) (tail ∷ []) ≡ false → those c d (ahead tree layout.tail) ≡ []
    behind d free = last d (sym (or-false (takes tail d)) ∙ free) ∙ ap (those c d) none

    past : (d : Class) → list_any (λ s. takes s d) front ≡ false → list_any (λ s. takes s d) (one class.CoordinateSystem ∷ some class.Axis ∷ optional class.AxisUnit ∷ []) ≡ false →
        those c d (ahead tree at) ≡ those c d (ahead tree layout.tail)
    past d free apart =
        let a = or_parts (takes (one class.CoordinateSystem) d) _ apart in
        let b = or_parts (takes (some class.Axis) d) _ a.1 in
        first d free ∙ past-system d a.0 ∙ past-axes d b.0 ∙ past-unit d (or_parts (takes (optional class.AxisUnit) d) _ b.1).0

-- from the first argument on
pub laid-arguments : (tree : Item) (c : Class) (item : Item) (start : Option ℕ) (layout : Layout) → IsAt tree (arguments item) start → IsLaid tree c (ahead tree start) layout →
    IsLaid tree c (arguments item) layout
laid-arguments tree c item start layout at laid =
    let P : Siblings → Type 0 = λ items. IsLaid tree c items layout in subst P (ahead_at tree (arguments item) start at) laid

-- ---- the parts one by one

-- the first of some arguments, of this class, and those behind it
those-here : (tree : Item) (c d : Class) (id : ℕ) (next : Option ℕ) → HasId tree id → IsAt tree (rest_of (here tree id)) next → is_a c d (item_at tree id) ≡ true →
    those c d (here tree id) ≡ item_at tree id ∷ those c d (ahead tree next)
those-here tree c d id next has at is =
    those-first c d (here tree id) has is ∙ ap (λ xs. item_at tree id ∷ xs) (ap (those c d) (sym (ahead_at tree (rest_of (here tree id)) next at)))

pub only-here : (tree : Item) (c d : Class) (id : ℕ) (next last : Option ℕ) → HasId tree id → IsAt tree (rest_of (here tree id)) next → is_a c d (item_at tree id) ≡ true → next ≡ last →
    those c d (ahead tree last) ≡ [] → those c d (here tree id) ≡ item_at tree id ∷ []
only-here tree c d id next last has at is same none =
    those-here tree c d id next has at is ∙ ap (λ xs. item_at tree id ∷ xs) (ap (λ o. those c d (ahead tree o)) same ∙ none)

-- ---- one axis after another

each-here : {V : Type 0} → (P : V → Type 0) → (xs : List V) (y : V) (ys : List V) → Each P (xs ++ y ∷ ys) → P y
each-here P [] y ys h = h.0
each-here P (x ∷ xs) y ys h = each-here P xs y ys h.1

pub record Noted (tree : Item) (c : Class) (of : SystemType) (from : Option ℕ) (axes : AxesFacts) (at : Option ℕ) : Type 0 where
  pub holds : Holds tree at
  pub before : List Item
  pub are : those c class.Axis (ahead tree from) ≡ before ++ those c class.Axis (ahead tree at)
  pub seen : HaveFacts of axes before

pub noted-first : (tree : Item) (c : Class) (of : SystemType) (none : AxesFacts) (from : Option ℕ) → HaveFacts of none [] → Holds tree from → Noted tree c of from none from
noted-first tree c of none from seen holds = record { holds = holds; before = []; are = refl; seen = seen }

pub noted-shaped : (tree : Item) (c : Class) (of : SystemType) (from : Option ℕ) (axes : AxesFacts) (at : Option ℕ) (id : ℕ) → at ≡ Some id → HasId tree id →
    is_a c class.Axis (item_at tree id) ≡ true → AllShaped class.Axis (those c class.Axis (ahead tree from)) → Noted tree c of from axes at → Shaped class.Axis (item_at tree id)
noted-shaped tree c of from axes at id same has is shaped so =
    each-here (Shaped class.Axis) so.before (item_at tree id) (those c class.Axis (rest_of (here tree id)))
    (subst (AllShaped class.Axis)
    (so.are ∙ ap (λ xs. so.before ++ xs) (ap (λ o. those c class.Axis (ahead tree o)) same ∙ those-first c class.Axis (here tree id) has is)) shaped)

pub noted-on : (tree : Item) (c : Class) (of : SystemType) (from : Option ℕ) (seen : AxisFacts) (old new : AxesFacts) (at : Option ℕ) (id : ℕ) (next : Option ℕ) → at ≡ Some id → HasId tree id →
    IsAt tree (rest_of (here tree id)) next → is_a c class.Axis (item_at tree id) ≡ true → HasFacts tree (item_at tree id) seen → IsNoted tree of seen old new →
    Noted tree c of from old at → Noted tree c of from new next
noted-on tree c of from seen old new at id next same has is-at is parts noted so = record {
  holds = holds_at tree (rest_of (here tree id)) next is-at;
  before = so.before ++ item_at tree id ∷ [];
  are = so.are ∙ ap (λ xs. so.before ++ xs) (ap (λ o. those c class.Axis (ahead tree o)) same ∙ those-here tree c class.Axis id next has is-at is)
      ∙ sym (append_assoc so.before (item_at tree id ∷ []) (those c class.Axis (ahead tree next)));
  seen = seen-on tree of seen old new so.before (item_at tree id) noted parts so.seen;
}

pub noted-end : (tree : Item) (c : Class) (of : SystemType) (from : Option ℕ) (axes : AxesFacts) (at : Option ℕ) → Noted tree c of from axes at → those c class.Axis (ahead tree at) ≡ [] →
    HaveFacts of axes (those c class.Axis (ahead tree from))
noted-end tree c of from axes at so none =
    subst (HaveFacts of axes) (sym (so.are ∙ ap (λ xs. so.before ++ xs) none ∙ append-nil so.before)) so.seen

-- ---- the parts of a CRS have their shapes

pub axes-shaped : (tree : Item) (c : Class) (item : Item) (layout : Layout) → Shaped c item → IsLaid tree c (arguments item) layout →
    AllShaped class.Axis (those c class.Axis (ahead tree layout.axes))
axes-shaped tree c item layout shaped laid = all-shaped class.Axis _ _ laid.axes (arguments-shaped c class.Axis item shaped)

pub system-shaped : (tree : Item) (c : Class) (item : Item) (layout : Layout) (cs : ℕ) → Shaped c item → IsLaid tree c (arguments item) layout → layout.system ≡ Some cs →
    those c class.CoordinateSystem (here tree cs) ≡ item_at tree cs ∷ [] → Shaped class.CoordinateSystem (item_at tree cs)
system-shaped tree c item layout cs shaped laid at only =
    (all-shaped class.CoordinateSystem _ _ (laid.system ∙ ap (λ o. those c class.CoordinateSystem (ahead tree o)) at ∙ only)
    (arguments-shaped c class.CoordinateSystem item shaped)).0

-- ---- the whole

pub laid-passes : DenotesOne → Symmetric → Transitive → (tree : Item) (c : Class) (items : Siblings) (layout : Layout) (cs : ℕ) (of : SystemType) (axes : AxesFacts) (shared : Option ℕ) →
    IsLaid tree c items layout → layout.system ≡ Some cs → those c class.CoordinateSystem (here tree cs) ≡ item_at tree cs ∷ [] → HasType (item_at tree cs) of →
    HaveFacts of axes (those c class.Axis (ahead tree layout.axes)) → those c class.AxisUnit (ahead tree layout.unit) ≡ the_one tree shared →
    ((list : List Item) → length list ≡ axes.count → IsLeast (OfHead (dimensions_of c) list (item_at tree cs)) None) → AreOrdered axes (those c class.Axis items) → UnitsFit tree axes shared →
    IsLeast (RepeatsAny c (ahead tree layout.tail) once) None → PassesButDynamic c items
laid-passes law symmetric transitive tree c items layout cs of axes shared laid at only typed noted unit head ordered fit repeats = record {
  repeats = λ f h. repeats f (repeats-back c once items (ahead tree layout.tail) laid.single f h);
  systems = rw (laid.unit ∙ unit)
      (systems-none (dimensions_of c) (those c class.CoordinateSystem items) (those c class.Axis items) (the_one tree shared) (item_at tree cs)
      (laid.system ∙ ap (λ o. those c class.CoordinateSystem (ahead tree o)) at ∙ only) (head (those c class.Axis items) (sym seen.count))
      (ordered-none law symmetric transitive of axes (those c class.Axis items) seen ordered) (units-none tree (item_at tree cs) of axes (those c class.Axis items) shared typed seen fit));
}
  where
    seen : HaveFacts of axes (those c class.Axis items)
    seen = subst (HaveFacts of axes) (sym laid.axes) noted

-- ---- what is seen of an axis: its direction, its order and its unit

-- the only argument of a class, which was looked for
only-found : SlotsBound → (tree : Item) (parent c : Class) (item : Item) (at : Option ℕ) → IsTrue (is_bounded (is_same c) (slots_of parent)) →
    most (is_same c) (slots_of parent) ≤ 1 → Shaped parent item → IsFound tree parent c (those parent c (arguments item)) at → those parent c (arguments item) ≡ the_one tree at
only-found law tree parent c item None bounded once shaped found = found
only-found law tree parent c item (Some id) bounded once shaped found =
    let few = arguments-few law parent c item bounded shaped in
    let none = nothing (those parent c (rest_of (here tree id))) (omega (arith, few, once, ap length found.0)) in
    found.0 ∙ ap (λ xs. item_at tree id ∷ xs) none

is-shaped : (tree : Item) (parent c : Class) (item : Item) (at : Option ℕ) → Shaped parent item → IsFound tree parent c (those parent c (arguments item)) at → IsShaped tree c at
is-shaped tree parent c item None shaped found = tt
is-shaped tree parent c item (Some id) shaped found = (found.1, first-shaped tree parent c item id shaped found)

pub axis-has : SlotsBound → (tree axis : Item) (word : ℕ) (seen : AxisFacts) → Shaped class.Axis axis → IsBehindName tree axis word →
    ReadsDirection (item_at tree word) seen.direction → IsFound tree class.Axis class.Order (those class.Axis class.Order (rest_of (here tree word))) seen.order →
    IsFound tree class.Axis class.AxisUnit (those class.Axis class.AxisUnit (rest_of (here tree word))) seen.unit → HasFacts tree axis seen
axis-has law tree axis word seen shaped behind reads order unit =
    let order-is : IsFound tree class.Axis class.Order (orders_in axis) seen.order = rw behind.orders order in
    let unit-is : IsFound tree class.Axis class.AxisUnit (units_in axis) seen.unit = rw behind.units unit in
    record {
      direction = rw behind.words reads;
      orders = only-found law tree class.Axis class.Order axis seen.order refl (omega arith) shaped order-is;
      order = is-shaped tree class.Axis class.Order axis seen.order shaped order-is;
      units = only-found law tree class.Axis class.AxisUnit axis seen.unit refl (omega arith) shaped unit-is;
      unit = is-shaped tree class.Axis class.AxisUnit axis seen.unit shaped unit-is;
    }

-- ---- the word behind the name

-- what is of one class isn't of another
other-class : (c d : Class) (item : Item) → is_a class.Axis c item ≡ true → is_class d (Some c) ≡ false → is_a class.Axis d item ≡ false
other-class c d item is other = ap (is_class d) (class-is c (class_in class.Axis item) is) ∙ other

pub behind-name : (tree axis : Item) (name word : ℕ) → IsAt tree (arguments axis) (Some name) → is_a class.Axis class.Text (item_at tree name) ≡ true →
    IsAt tree (rest_of (here tree name)) (Some word) → is_a class.Axis class.Word (item_at tree word) ≡ true → IsBehindName tree axis word
behind-name tree axis name word at text next is = record {
  has = next.1;
  words = past class.Word refl ∙ those-first class.Axis class.Word (here tree word) next.1 is;
  orders = past class.Order refl ∙ those-later class.Axis class.Order (here tree word) next.1 (other-class class.Word class.Order (item_at tree word) is refl);
  units = past class.AxisUnit refl ∙ those-later class.Axis class.AxisUnit (here tree word) next.1 (other-class class.Word class.AxisUnit (item_at tree word) is refl);
}
  where
    past : (d : Class) → is_class d (Some class.Text) ≡ false → those class.Axis d (arguments axis) ≡ those class.Axis d (here tree word)
    past d other =
        ap (those class.Axis d) (sym at.0) ∙ those-later class.Axis d (here tree name) at.1 (other-class class.Text d (item_at tree name) text other)
        ∙ ap (those class.Axis d) (sym next.0)
