-- The first arguments of a node of some classes, found in one walk.
use Rattle.std.proofs.Common.{◌≡◌, ℕ, ◌+◌, ◌≤◌, length, map, Bool, true, false, List, [], ◌∷◌, Option, Some, None, sym, ◌∙◌, ap, subst, arith}
use Rattle.crs_text.specs.inner.Prelude.{Item, Siblings, rest_of, here, HasId, IsAt}
use Rattle.crs_shape.specs.declared.class.Class.{Class}
use Rattle.crs_shape.specs.declared.class.Class.TheVariants as class
use Rattle.crs_shape.specs.inner.Prelude.{one_if, class_in, is_class}
use Rattle.crs_value.specs.declared.reading.firsts.Firsts.{Firsts}
use Rattle.crs_value.specs.inner.FirstArguments.{AreNoted, fields, first_with}
use Rattle.crs_value.specs.Reading.{Each, is_same, is_a, those}
use Rattle.crs_value.specs.inner.Arguments.{item_at, ahead, Holds, IsFound}
use Rattle.crs_value.proofs.found.ArgumentLemmas.{ahead_at, each-as, holds_at, those-first, those-later}

-- the first of a class so far, where these are left
abbrev pub SeenOf : Item → Class → Class → Siblings → Siblings → Option ℕ → Type 0
SeenOf tree parent c all left None = those parent c all ≡ those parent c left
SeenOf tree parent c all left (Some id) = IsFound tree parent c (those parent c all) (Some id)

one-past : (tree : Item) (parent c : Class) (all : Siblings) (old : Option ℕ) (id : ℕ) (at : Option ℕ) → HasId tree id → is_a parent c (item_at tree id) ≡ false →
    SeenOf tree parent c all (here tree id) old → IsAt tree (rest_of (here tree id)) at → SeenOf tree parent c all (ahead tree at) old
one-past tree parent c all None id at has other so next =
    so ∙ those-later parent c (here tree id) has other ∙ ap (those parent c) (sym (ahead_at tree (rest_of (here tree id)) at next))
one-past tree parent c all (Some old) id at has other so next = so

one-is : (tree : Item) (parent c : Class) (all : Siblings) (old : Option ℕ) (id : ℕ) (at : Option ℕ) → HasId tree id → is_a parent c (item_at tree id) ≡ true →
    SeenOf tree parent c all (here tree id) old → SeenOf tree parent c all (ahead tree at) (first_with true old id)
one-is tree parent c all None id at has is so = (so ∙ those-first parent c (here tree id) has is, has)
one-is tree parent c all (Some old) id at has is so = so

one-by : (b : Bool) (tree : Item) (parent c : Class) (all : Siblings) (old : Option ℕ) (id : ℕ) (at : Option ℕ) → HasId tree id → is_a parent c (item_at tree id) ≡ b →
    SeenOf tree parent c all (here tree id) old → IsAt tree (rest_of (here tree id)) at → SeenOf tree parent c all (ahead tree at) (first_with b old id)
one-by true tree parent c all old id at has e so next = one-is tree parent c all old id at has e so
one-by false tree parent c all old id at has e so next = one-past tree parent c all old id at has e so next

-- how many of a class are left, after one that is of the class or not
pub one-more : (b : Bool) (tree : Item) (parent c : Class) (id : ℕ) (at : Option ℕ) → HasId tree id → is_a parent c (item_at tree id) ≡ b → IsAt tree (rest_of (here tree id)) at →
    length (those parent c (here tree id)) ≡ one_if b + length (those parent c (ahead tree at))
one-more true tree parent c id at has e next =
    let behind = ap (λ xs. length (those parent c xs)) (ahead_at tree (rest_of (here tree id)) at next) in
    omega (arith, ap length (those-first parent c (here tree id) has e), behind)
one-more false tree parent c id at has e next =
    let behind = ap (λ xs. length (those parent c xs)) (ahead_at tree (rest_of (here tree id)) at next) in
    omega (arith, ap length (those-later parent c (here tree id) has e), behind)

-- those of all classes that are asked for
pub record Seen (tree : Item) (parent : Class) (all : Siblings) (firsts : Firsts) (at : Option ℕ) : Type 0 where
  pub holds : Holds tree at
  pub are : Each (λ f. SeenOf tree parent f.0 all (ahead tree at) f.1) (fields firsts)
  pub axes : firsts.axes + length (those parent class.Axis (ahead tree at)) ≡ length (those parent class.Axis all)

each-mapped : {V : Type 0} (P Q : V → Type 0) (step : V → V) → ((v : V) → P v → Q (step v)) → (vs : List V) → Each P vs → Each Q (map step vs)
each-mapped P Q step on [] h = tt
each-mapped P Q step on (v ∷ vs) h = (on v h.0, each-mapped P Q step on vs h.1)

pub seen-on : (tree : Item) (parent d : Class) (all : Siblings) (old new : Firsts) (id : ℕ) (at : Option ℕ) → Seen tree parent all old (Some id) → class_in parent (item_at tree id) ≡ Some d →
    AreNoted old new d id → IsAt tree (rest_of (here tree id)) at → Seen tree parent all new at
seen-on tree parent d all old new id at so named are next = record {
  holds = holds_at tree (rest_of (here tree id)) at next;
  are = subst (Each (λ f. SeenOf tree parent f.0 all (ahead tree at) f.1)) (sym are.0)
      (each-mapped (λ f. SeenOf tree parent f.0 all (here tree id) f.1) (λ f. SeenOf tree parent f.0 all (ahead tree at) f.1)
      (λ f. (f.0, first_with (is_same f.0 d) f.1 id))
      (λ f h. one-by (is_same f.0 d) tree parent f.0 all f.1 id at so.holds (ap (is_class f.0) named) h next) (fields old) so.are);
  axes = omega (arith, are.1, so.axes, one-more (is_same class.Axis d) tree parent class.Axis id at so.holds (ap (is_class class.Axis) named) next);
}

pub seen-past : (tree : Item) (parent : Class) (all : Siblings) (firsts : Firsts) (id : ℕ) (at : Option ℕ) → Seen tree parent all firsts (Some id) → class_in parent (item_at tree id) ≡ None →
    IsAt tree (rest_of (here tree id)) at → Seen tree parent all firsts at
seen-past tree parent all firsts id at so unnamed next = record {
  holds = holds_at tree (rest_of (here tree id)) at next;
  are = each-as (λ f h. one-past tree parent f.0 all f.1 id at so.holds (ap (is_class f.0) unnamed) h next) (fields firsts) so.are;
  axes = omega (arith, so.axes, one-more false tree parent class.Axis id at so.holds (ap (is_class class.Axis) unnamed) next);
}

-- one axis more is still among all of them
pub axis-among : (tree : Item) (parent d : Class) (all : Siblings) (firsts : Firsts) (id : ℕ) → Seen tree parent all firsts (Some id) → class_in parent (item_at tree id) ≡ Some d →
    is_same class.Axis d ≡ true → firsts.axes + 1 ≤ length (those parent class.Axis all)
axis-among tree parent d all firsts id so named axis =
    omega (arith, so.axes, ap length (those-first parent class.Axis (here tree id) so.holds (ap (is_class class.Axis) named ∙ axis)))
