-- Lines in another order: what each of them adds depends on nothing that other lines add.
use Rattle.std.proofs.Common.{arith, ◌≡◌, ◌⊎◌, ◌||◌, ◌++◌, ◌∷◌, [], ℕ, List, Bool, true, false, Option, None, Some, ap, append-nil, append_assoc, inl, inr, refl, sym, subst, ◌∙◌, codes, if◌then◌else◌}
use Rattle.std.specs.Str.{str_eq_ignore_ascii_case}
use Rattle.std.proofs.Math.Bool.{or_assoc}
use Rattle.crs_text.specs.inner.Prelude.{Item, leaf, node, Siblings, End, More, arguments, number, text, word}
use Rattle.crs_shape.specs.declared.unit_kind.UnitKind.{UnitKind}
use Rattle.crs_value.specs.inner.Prelude.{OneIs, IsIn}
use Rattle.crs_value.specs.Sound.{Each}
use Rattle.crs_rules.specs.Rules.{no_rules, nothing, DifferInOrder, HaveSameMembers, NameAliasParts, ParameterKindParts, UnitAliasParts}
use Rattle.crs_rules.specs.ReorderedAxes.{IsReordered}
use Rattle.crs_rules.specs.declared.uncounted.Uncounted.{Uncounted}
use Rattle.crs_rules.specs.Members.{MemberParts, kind_of}
use Rattle.crs_rules.specs.OrderOfLines.{AreLinesOf, AreReordered}
use Rattle.crs_rules.specs.RulesFile.{Reads, ReadsFile, next, start}
use Rattle.crs_rules.specs.Statements.{Adds, AddsSet, Drops, Joins, Over, Reading, Sorts, SortsAll, States, joined, kind_node, listed, with_alias, with_item, with_kind, with_meridians, with_word}
use Rattle.crs_rules.proofs.OneLemmas.{LinesOne, some-one}

-- ---- lists

abbrev pub Stands : {A : Type 0} → List A → A → Type 0
Stands xs x = OneIs (λ y. x ≡ y) xs

stands-either : {A : Type 0} (xs ys : List A) (x : A) → Stands (xs ++ ys) x → Stands xs x ⊎ Stands ys x
stands-either [] ys x h = inr h
stands-either (y ∷ xs) ys x (inl e) = inl (inl e)
stands-either (y ∷ xs) ys x (inr h) = grind (arith, stands-either xs ys x h)

-- one of them, or the one more
pub stands-last : {A : Type 0} (xs : List A) (x y : A) → Stands (xs ++ x ∷ []) y → Stands xs y ⊎ (y ≡ x)
stands-last xs x y h = grind (arith, stands-either xs (x ∷ []) y h)

pub stands-front : {A : Type 0} (xs ys : List A) (x : A) → Stands xs x → Stands (xs ++ ys) x
stands-front [] ys x h = absurd h
stands-front (y ∷ xs) ys x (inl e) = inl e
stands-front (y ∷ xs) ys x (inr h) = inr (stands-front xs ys x h)

pub stands-back : {A : Type 0} (xs ys : List A) (x : A) → Stands ys x → Stands (xs ++ ys) x
stands-back [] ys x h = h
stands-back (y ∷ xs) ys x h = inr (stands-back xs ys x h)

-- each member of the second list is one of the first
abbrev Holds : {A : Type 0} → List A → List A → Type 0
Holds {A = A} xs ys = (x : A) → Stands ys x → Stands xs x

holds-more : {A : Type 0} (xs ys more : List A) → Holds xs ys → Holds (xs ++ more) (ys ++ more)
holds-more xs ys more holds x h = grind (arith, stands-either ys more x h, holds x, stands-front xs more x, stands-back xs more x)

holds-exchanged : {A : Type 0} (xs a b : List A) → Holds ((xs ++ a) ++ b) ((xs ++ b) ++ a)
holds-exchanged xs a b x h =
    grind (
      arith,
      stands-either (xs ++ b) a x h,
      stands-either xs b x,
      stands-front (xs ++ a) b x,
      stands-back (xs ++ a) b x,
      stands-front xs a x,
      stands-back xs a x,
    )

is-in : {A : Type 0} (xs : List A) (x : A) → Stands xs x → IsIn x xs
is-in [] x h = h
is-in (y ∷ xs) x (inl e) = inl e
is-in (y ∷ xs) x (inr h) = inr (is-in xs x h)

pub each-of : {A : Type 0} (P : A → Type 0) (xs : List A) → ((x : A) → Stands xs x → P x) → Each P xs
each-of P [] f = tt
each-of P (x ∷ xs) f = (f x (inl refl), each-of P xs (λ y h. f y (inr h)))

same-members : {A : Type 0} (xs ys : List A) → Holds xs ys → Holds ys xs → HaveSameMembers xs ys
same-members xs ys there back = (
  each-of (λ x. IsIn x ys) xs (λ x h. is-in ys x (back x h)),
  each-of (λ y. IsIn y xs) ys (λ y h. is-in xs y (there y h)),
)

-- ---- what doesn't count

-- what a test of three words says of each kind of part
abbrev each_word : (Bool → Bool → Bool → Bool) → Uncounted → Uncounted → Uncounted → Uncounted
each_word test a b c = record {
  crs_names = test a.crs_names b.crs_names c.crs_names;
  base_names = test a.base_names b.base_names c.base_names;
  conversion_names = test a.conversion_names b.conversion_names c.conversion_names;
  axis_names = test a.axis_names b.axis_names c.axis_names;
  dynamics = test a.dynamics b.dynamics c.dynamics;
  anchors = test a.anchors b.anchors c.anchors;
  geoid_models = test a.geoid_models b.geoid_models c.geoid_models;
  base_units = test a.base_units b.base_units c.base_units;
  ensembles = test a.ensembles b.ensembles c.ensembles;
  axis_order = test a.axis_order b.axis_order c.axis_order;
  meridian_units = test a.meridian_units b.meridian_units c.meridian_units;
}

abbrev either : Uncounted → Uncounted → Uncounted
either w u = each_word (λ a b c. a || b) w u u

or-swap : (a b c : Bool) → (a || (b || c)) ≡ (b || (a || c))
or-swap a b c = grind arith

either-assoc : (a b c : Uncounted) → either a (either b c) ≡ either (either a b) c
either-assoc a b c = λ i. each_word (λ x y z. sym (or_assoc x y z) i) a b c

either-swap : (a b c : Uncounted) → either a (either b c) ≡ either b (either a c)
either-swap a b c = λ i. each_word (λ x y z. or-swap x y z i) a b c

-- where it names something, it names that beside anything
abbrev Names : (Uncounted → Option Uncounted) → Type 0
Names f = (u v : Uncounted) → f u ≡ Some v → (w : Uncounted) × ((o : Uncounted) → f o ≡ Some (either w o))

names-none : Names (λ u. None)
names-none u v e = cc

names-if : (test : Bool) (w : Uncounted) (f : Uncounted → Option Uncounted) → Names f
    → Names (λ u. if test then Some (either w u) else f u)
names-if true w f h u v e = (w, λ o. refl)
names-if false w f h u v e = h u v e

abbrev reads : List ℕ → List ℕ → Bool
reads name raw = str_eq_ignore_ascii_case name raw

names-word : (raw : List ℕ) → Names (with_word raw)
names-word raw =
    names-if (reads (codes "crsName") raw) (record nothing { crs_names = true }) _
    (names-if (reads (codes "baseName") raw) (record nothing { base_names = true }) _
    (names-if (reads (codes "conversionName") raw) (record nothing { conversion_names = true }) _
    (names-if (reads (codes "axisName") raw) (record nothing { axis_names = true }) _
    (names-if (reads (codes "dynamic") raw) (record nothing { dynamics = true }) _
    (names-if (reads (codes "anchor") raw) (record nothing { anchors = true }) _
    (names-if (reads (codes "geoidModel") raw) (record nothing { geoid_models = true }) _
    (names-if (reads (codes "baseUnit") raw) (record nothing { base_units = true }) _
    (names-if (reads (codes "ensemble") raw) (record nothing { ensembles = true }) _
    (names-if (reads (codes "axisOrder") raw) (record nothing { axis_order = true }) (λ u. None) names-none)))))))))

names-item : (item : Item) → Names (with_item item)
names-item (leaf number place raw) = names-none
names-item (leaf text place raw) = names-none
names-item (leaf word place raw) = names-word raw
names-item (node place keyword square first others close) = names-none

-- ---- what is added

record Addition : Type 0 where
  nodes : List MemberParts
  names : List NameAliasParts
  units : List UnitAliasParts
  kinds : List ParameterKindParts
  words : Uncounted

abbrev no_addition : Addition
no_addition = record { nodes = []; names = []; units = []; kinds = []; words = nothing }

abbrev both : Addition → Addition → Addition
both a b = record {
  nodes = a.nodes ++ b.nodes;
  names = a.names ++ b.names;
  units = a.units ++ b.units;
  kinds = a.kinds ++ b.kinds;
  words = either b.words a.words;
}

-- one reading has that beside what another has, at whatever line
record HasAlso (added : Addition) (r s : Reading) : Type 0 where
  seen : s.seen ≡ r.seen ++ added.nodes
  names : s.rules.names ≡ r.rules.names ++ added.names
  units : s.rules.units ≡ r.rules.units ++ added.units
  kinds : s.rules.kinds ≡ r.rules.kinds ++ added.kinds
  words : s.rules.uncounted ≡ either added.words r.rules.uncounted

same : {A : Type 0} (xs : List A) → xs ≡ xs ++ []
same xs = sym (append-nil xs)

also-none : {r s : Reading} → s.seen ≡ r.seen → s.rules ≡ r.rules → HasAlso no_addition r s
also-none {r = r} seen rules = record {
  seen = seen ∙ same r.seen;
  names = ap (λ k. k.names) rules ∙ same r.rules.names;
  units = ap (λ k. k.units) rules ∙ same r.rules.units;
  kinds = ap (λ k. k.kinds) rules ∙ same r.rules.kinds;
  words = ap (λ k. k.uncounted) rules;
}

also-both : {a b : Addition} {r q s : Reading} → HasAlso a r q → HasAlso b q s → HasAlso (both a b) r s
also-both {a = a} {b = b} {r = r} h k = record {
  seen = k.seen ∙ (ap (λ l. l ++ b.nodes) h.seen ∙ append_assoc r.seen a.nodes b.nodes);
  names = k.names ∙ (ap (λ l. l ++ b.names) h.names ∙ append_assoc r.rules.names a.names b.names);
  units = k.units ∙ (ap (λ l. l ++ b.units) h.units ∙ append_assoc r.rules.units a.units b.units);
  kinds = k.kinds ∙ (ap (λ l. l ++ b.kinds) h.kinds ∙ append_assoc r.rules.kinds a.kinds b.kinds);
  words = k.words ∙ (ap (either b.words) h.words ∙ either-assoc b.words a.words r.rules.uncounted);
}

-- none of these stands among those
abbrev Apart : List MemberParts → List MemberParts → Type 0
Apart seen nodes = (m : MemberParts) → Stands nodes m → ¬ (Stands seen m)

-- a step adds something, and adds it wherever its nodes did not stand before
record Adding (P : Reading → Reading → Type 0) (r s : Reading) : Type 0 where
  added : Addition
  apart : Apart r.seen added.nodes
  also : HasAlso added r s
  again : (q : Reading) → Apart q.seen added.nodes → (t : Reading) × P q t × HasAlso added q t

adding-as : {P Q : Reading → Reading → Type 0} {r s : Reading} → ((q t : Reading) → P q t → Q q t) → Adding P r s → Adding Q r s
adding-as f h = record {
  added = h.added;
  apart = h.apart;
  also = h.also;
  again = λ q apart. let k = h.again q apart in (k.0, f q k.0 k.1, k.2);
}

abbrev Then : (Reading → Reading → Type 0) → (Reading → Reading → Type 0) → Reading → Reading → Type 0
Then P Q r s = (q : Reading) × P r q × Q q s

-- nodes that are apart from what stood before and from the first of them
apart-both : (seen now a b : List MemberParts) → now ≡ seen ++ a → Apart seen a → Apart now b → Apart seen (a ++ b)
apart-both seen now a b e f g m h there =
    grind (arith, stands-either a b m h, f m, g m, subst (λ l. Stands l m) (sym e) (stands-front seen a m there))

apart-first : (seen a b : List MemberParts) → Apart seen (a ++ b) → Apart seen a
apart-first seen a b f m h = f m (stands-front a b m h)

apart-second : (seen now other late a b : List MemberParts) → now ≡ seen ++ a → late ≡ other ++ a → Apart now b
    → Apart other (a ++ b) → Apart late b
apart-second seen now other late a b e d f g m h there =
    grind (
      arith,
      stands-either other a m (subst (λ l. Stands l m) d there),
      g m (stands-back a b m h),
      f m h,
      λ (k : Stands a m). subst (λ l. Stands l m) (sym e) (stands-back seen a m k),
    )

adding-then : {P Q : Reading → Reading → Type 0} {r q s : Reading} → Adding P r q → Adding Q q s → Adding (Then P Q) r s
adding-then {r = r} {q = q} h k = record {
  added = both h.added k.added;
  apart = apart-both r.seen q.seen h.added.nodes k.added.nodes h.also.seen h.apart k.apart;
  also = also-both h.also k.also;
  again = λ p apart.
      let one = h.again p (apart-first p.seen h.added.nodes k.added.nodes apart) in
      let two = k.again one.0 (apart-second r.seen q.seen p.seen one.0.seen h.added.nodes k.added.nodes h.also.seen one.2.seen k.apart apart) in
      (two.0, (one.0, one.1, two.1), also-both one.2 two.2);
}

adding-over : {A : Type 0} (Step : Reading → A → Reading → Type 0)
    → ((r s : Reading) (x : A) → Step r x s → Adding (λ q t. Step q x t) r s)
    → (r s : Reading) (xs : List A) → Over Step r xs s → Adding (λ q t. Over Step q xs t) r s
adding-over Step f r s [] e = record {
  added = no_addition;
  apart = λ m h. absurd h;
  also = also-none (ap (λ q. q.seen) (sym e)) (ap (λ q. q.rules) (sym e));
  again = λ q apart. (q, refl, also-none refl refl);
}
adding-over Step f r s (x ∷ xs) (q, step, over) = adding-then (f r q x step) (adding-over Step f q s xs over)

-- ---- nodes of sets

also-words : (w : Uncounted) (q : Reading)
    → HasAlso (record no_addition { words = w }) q (record q { rules = record q.rules { uncounted = either w q.rules.uncounted } })
also-words w q = record {
  seen = same q.seen;
  names = same q.rules.names;
  units = same q.rules.units;
  kinds = same q.rules.kinds;
  words = refl;
}

-- a node, and what it adds to no rules
abbrev addition : Option MemberParts → MemberParts → Addition
addition first m = record {
  nodes = m ∷ [];
  names = (joined first m no_rules).names;
  units = (joined first m no_rules).units;
  kinds = [];
  words = nothing;
}

abbrev with_node : Option MemberParts → MemberParts → Reading → Reading
with_node first m q = record q { seen = q.seen ++ m ∷ []; rules = joined first m q.rules }

also-aliased : (k : Option UnitKind) (first m : MemberParts) (q : Reading) → let alone = with_alias k first m no_rules in
    HasAlso (record { nodes = m ∷ []; names = alone.names; units = alone.units; kinds = []; words = nothing }) q
    (record q { seen = q.seen ++ m ∷ []; rules = with_alias k first m q.rules })
also-aliased None first m q = record { seen = refl; names = refl; units = same q.rules.units; kinds = same q.rules.kinds; words = refl }
also-aliased (Some k) first m q = record { seen = refl; names = same q.rules.names; units = refl; kinds = same q.rules.kinds; words = refl }

also-node : (first : Option MemberParts) (m : MemberParts) (q : Reading) → HasAlso (addition first m) q (with_node first m q)
also-node None m q = record { seen = refl; names = same q.rules.names; units = same q.rules.units; kinds = same q.rules.kinds; words = refl }
also-node (Some first) m q = also-aliased (kind_of first.class) first m q

only-one : (seen : List MemberParts) (m : MemberParts) → ¬ (Stands seen m) → Apart seen (m ∷ [])
only-one seen m new n (inl e) = subst (λ k. ¬ (Stands seen k)) (sym e) new
only-one seen m new n (inr k) = absurd k

node-adds : (first : Option MemberParts) (m : MemberParts) (r s : Reading) (item : Item) → Adds first m r item s
    → Adding (λ q t. Adds first m q item t) r s
node-adds first m r s item h = record {
  added = addition first m;
  apart = only-one r.seen m h.new;
  also = subst (HasAlso (addition first m) r) (sym h.adds) (also-node first m r);
  again = λ q apart.
      (with_node first m q, record { says = h.says; class = h.class; new = apart m (inl refl); adds = refl }, also-node first m q);
}

joins-adds : (first : MemberParts) (r s : Reading) (item : Item) → Joins first r item s → Adding (λ q t. Joins first q item t) r s
joins-adds first r s item (m, adds) = adding-as (λ q t h. (m, h)) (node-adds (Some first) m r s item adds)

set-adds : (r s : Reading) (items : Siblings) → AddsSet r items s → Adding (λ q t. AddsSet q items t) r s
set-adds r s End h = absurd h
set-adds r s (More item items) (first, q, adds, over) =
    adding-as (λ p t h. (first, h.0, h.1, h.2))
    (adding-then (node-adds None first r q item adds) (adding-over (Joins first) (joins-adds first) q s (listed items) over))

-- ---- words

drops-adds : (r s : Reading) (item : Item) → Drops r item s → Adding (λ q t. Drops q item t) r s
drops-adds r s item (u, names, is) =
    let w = names-item item r.rules.uncounted u names in
    let same : u ≡ either w.0 r.rules.uncounted = some-one (with_item item r.rules.uncounted) u _ names (w.1 r.rules.uncounted) in record {
      added = record no_addition { words = w.0 };
      apart = λ m h. absurd h;
      also = subst (HasAlso (record no_addition { words = w.0 }) r)
          (sym (is ∙ ap (λ v. record r { rules = record r.rules { uncounted = v } }) same)) (also-words w.0 r);
      again = λ q apart. (_, (either w.0 q.rules.uncounted, w.1 q.rules.uncounted, refl), also-words w.0 q);
    }

-- ---- kinds

sort-adds : (k : UnitKind) (r s : Reading) (item : Item) → Sorts k r item s → Adding (λ q t. Sorts k q item t) r s
sort-adds k r s item (inl (is, e)) = let w : Uncounted = record nothing { meridian_units = true } in record {
  added = record no_addition { words = w };
  apart = λ m h. absurd h;
  also = subst (HasAlso (record no_addition { words = w }) r) (sym e) (also-words w r);
  again = λ q apart. (with_meridians q, inl (is, refl), also-words w q);
}
sort-adds k r s item (inr (other, m, h)) = record {
  added = added;
  apart = only-one r.seen (kind_node m.name) h.new;
  also = subst (HasAlso added r) (sym h.adds) (also r);
  again = λ q apart.
      (with_kind k m.name q, inr (other, m, record { says = h.says; new = apart (kind_node m.name) (inl refl); adds = refl }), also q);
}
  where
    added : Addition
    added = record no_addition { nodes = kind_node m.name ∷ []; kinds = record { name = m.name; kind = k } ∷ [] }

    also : (q : Reading) → HasAlso added q (with_kind k m.name q)
    also q = record { seen = refl; names = same q.rules.names; units = same q.rules.units; kinds = refl; words = refl }

kind-adds : (r s : Reading) (items : Siblings) → SortsAll r items s → Adding (λ q t. SortsAll q items t) r s
kind-adds r s End h = absurd h
kind-adds r s (More item items) (k, is, over) =
    adding-as (λ q t h. (k, is, h)) (adding-over (Sorts k) (sort-adds k) r s (listed items) over)

-- ---- statements, lines

statement-adds : (r s : Reading) (item : Item) → States r item s → Adding (λ q t. States q item t) r s
statement-adds r s item (inl (says, h)) = adding-as (λ q t k. inl (says, k)) (set-adds r s (arguments item) h)
statement-adds r s item (inr (inl (says, h))) =
    adding-as (λ q t k. inr (inl (says, k))) (adding-over Drops drops-adds r s (listed (arguments item)) h)
statement-adds r s item (inr (inr (says, h))) = adding-as (λ q t k. inr (inr (says, k))) (kind-adds r s (arguments item) h)

-- the line that a reading is at says nothing
also-next : (added : Addition) (r s : Reading) → HasAlso added (next r) s → HasAlso added r s
also-next added r s h = record { seen = h.seen; names = h.names; units = h.units; kinds = h.kinds; words = h.words }

line-adds : (r s : Reading) (line : List ℕ) → Reads r line s → Adding (λ q t. Reads q line t) r s
line-adds r s line (inl (idle, e)) = record {
  added = no_addition;
  apart = λ m h. absurd h;
  also = also-none (ap (λ q. q.seen) e) (ap (λ q. q.rules) e);
  again = λ q apart. (next q, inl (idle, refl), also-none refl refl);
}
line-adds r s line (inr (busy, item, spells, states)) =
    let h = statement-adds (next r) s item states in record {
      added = h.added;
      apart = h.apart;
      also = also-next h.added r s h.also;
      again = λ q apart.
          let k = h.again (next q) apart in
          (k.0, inr (busy, item, spells, k.1), also-next h.added q k.0 k.2);
    }

lines-add : (r s : Reading) (lines : List (List ℕ)) → Over Reads r lines s → Adding (λ q t. Over Reads q lines t) r s
lines-add = adding-over Reads line-adds

-- ---- readings that differ in order alone

-- each list has the members of the other
abbrev HoldBoth : {A : Type 0} → List A → List A → Type 0
HoldBoth xs ys = Holds xs ys × Holds ys xs

record IsAlike (r s : Reading) : Type 0 where
  seen : Holds r.seen s.seen
  names : HoldBoth r.rules.names s.rules.names
  units : HoldBoth r.rules.units s.rules.units
  kinds : HoldBoth r.rules.kinds s.rules.kinds
  uncounted : r.rules.uncounted ≡ s.rules.uncounted

alike-self : (r : Reading) → IsAlike r r
alike-self r = record {
  seen = λ m h. h;
  names = (λ a h. h, λ a h. h);
  units = (λ a h. h, λ a h. h);
  kinds = (λ a h. h, λ a h. h);
  uncounted = refl;
}

alike-on : {r s t : Reading} → IsAlike r s → IsAlike s t → IsAlike r t
alike-on h k = record {
  seen = λ m there. h.seen m (k.seen m there);
  names = (λ a there. h.names.0 a (k.names.0 a there), λ a there. k.names.1 a (h.names.1 a there));
  units = (λ a there. h.units.0 a (k.units.0 a there), λ a there. k.units.1 a (h.units.1 a there));
  kinds = (λ a there. h.kinds.0 a (k.kinds.0 a there), λ a there. k.kinds.1 a (h.kinds.1 a there));
  uncounted = h.uncounted ∙ k.uncounted;
}

both-more : {A : Type 0} (xs ys left right more : List A) → xs ≡ left ++ more → ys ≡ right ++ more → HoldBoth left right → HoldBoth xs ys
both-more xs ys left right more d e h = rw (d, e) (holds-more left right more h.0, holds-more right left more h.1)

both-exchanged : {A : Type 0} (xs ys old a b : List A) → xs ≡ (old ++ a) ++ b → ys ≡ (old ++ b) ++ a → HoldBoth xs ys
both-exchanged xs ys old a b d e = rw (d, e) (holds-exchanged old a b, holds-exchanged old b a)

-- the same added to both
alike-more : (added : Addition) (p q s t : Reading) → IsAlike p q → HasAlso added p s → HasAlso added q t → IsAlike s t
alike-more added p q s t h j k = record {
  seen = rw (j.seen, k.seen) (holds-more p.seen q.seen added.nodes h.seen);
  names = both-more s.rules.names t.rules.names p.rules.names q.rules.names added.names j.names k.names h.names;
  units = both-more s.rules.units t.rules.units p.rules.units q.rules.units added.units j.units k.units h.units;
  kinds = both-more s.rules.kinds t.rules.kinds p.rules.kinds q.rules.kinds added.kinds j.kinds k.kinds h.kinds;
  uncounted = j.words ∙ (ap (either added.words) h.uncounted ∙ sym k.words);
}

-- a step from a reading that differs in order
steps-alike : {P : Reading → Reading → Type 0} {p q s : Reading} → Adding P p s → IsAlike p q → (t : Reading) × P q t × IsAlike s t
steps-alike {p = p} {q = q} {s = s} h alike =
    let k = h.again q (λ m there stood. h.apart m there (alike.seen m stood)) in
    (k.0, k.1, alike-more h.added p q s k.0 alike h.also k.2)

-- two additions the other way round
alike-exchanged : (a b : Addition) (r q p o s : Reading) → HasAlso a r q → HasAlso b q p → HasAlso b r o → HasAlso a o s → IsAlike p s
alike-exchanged a b r q p o s h k l m = record {
  seen = (both-exchanged p.seen s.seen r.seen a.nodes b.nodes (k.seen ∙ ap (λ x. x ++ b.nodes) h.seen)
      (m.seen ∙ ap (λ x. x ++ a.nodes) l.seen)).0;
  names = both-exchanged p.rules.names s.rules.names r.rules.names a.names b.names (k.names ∙ ap (λ x. x ++ b.names) h.names)
      (m.names ∙ ap (λ x. x ++ a.names) l.names);
  units = both-exchanged p.rules.units s.rules.units r.rules.units a.units b.units (k.units ∙ ap (λ x. x ++ b.units) h.units)
      (m.units ∙ ap (λ x. x ++ a.units) l.units);
  kinds = both-exchanged p.rules.kinds s.rules.kinds r.rules.kinds a.kinds b.kinds (k.kinds ∙ ap (λ x. x ++ b.kinds) h.kinds)
      (m.kinds ∙ ap (λ x. x ++ a.kinds) l.kinds);
  uncounted = k.words ∙ (ap (either b.words) h.words ∙ (either-swap b.words a.words r.rules.uncounted
      ∙ sym (m.words ∙ ap (either a.words) l.words)));
}

-- two steps the other way round
exchanged : {P Q : Reading → Reading → Type 0} {r q p : Reading} → Adding P r q → Adding Q q p
    → (o : Reading) × (s : Reading) × Q r o × P o s × IsAlike p s
exchanged {r = r} {q = q} {p = p} h k =
    let before : (m : MemberParts) → Stands r.seen m ⊎ Stands h.added.nodes m → Stands q.seen m =
    λ m stood. subst (λ l. Stands l m) (sym h.also.seen) (elim stood [ inl old ↦ stands-front r.seen h.added.nodes m old | inr new ↦ stands-back r.seen h.added.nodes m new ]) in
    let one = k.again r (λ m there stood. k.apart m there (before m (inl stood))) in
    let two = h.again one.0 (λ m there stood. elim (stands-either r.seen k.added.nodes m (subst (λ l. Stands l m) one.2.seen stood)) [
      | inl old ↦ h.apart m there old
      | inr new ↦ k.apart m new (before m (inr there))
    ]) in
    (one.0, two.0, one.1, two.1, alike-exchanged h.added k.added r q p one.0 two.0 h.also k.also one.2 two.2)

-- ---- lines in another order

over-split : {A : Type 0} (Step : Reading → A → Reading → Type 0) (r t : Reading) (xs ys : List A) → Over Step r (xs ++ ys) t
    → (q : Reading) × Over Step r xs q × Over Step q ys t
over-split Step r t [] ys over = (r, refl, over)
over-split Step r t (x ∷ xs) ys (q, step, over) =
    let below = over-split Step q t xs ys over in (below.0, (q, step, below.1), below.2)

over-join : {A : Type 0} (Step : Reading → A → Reading → Type 0) (r q t : Reading) (xs ys : List A) → Over Step r xs q
    → Over Step q ys t → Over Step r (xs ++ ys) t
over-join Step r q t [] ys e over = subst (λ p. Over Step p ys t) (sym e) over
over-join Step r q t (x ∷ xs) ys (p, step, more) over = (p, step, over-join Step p q t xs ys more over)

reordered : (r s : Reading) (lines theirs : List (List ℕ)) → IsReordered lines theirs → Over Reads r lines s
    → (t : Reading) × Over Reads r theirs t × IsAlike s t
reordered r s [] theirs none over =
    (s, subst (λ l. Over Reads r l s) (sym none) over, alike-self s)
reordered r s (line ∷ lines) theirs (front, back, are, others) (q, step, over) =
    let below = reordered q s lines (front ++ back) others over in
    let parts = over-split Reads q below.0 front back below.1 in
    let moved = exchanged (line-adds r q line step) (lines-add q parts.0 front parts.1) in
    let ended = steps-alike (lines-add parts.0 below.0 back parts.2) moved.4 in (
      ended.0,
      subst (λ l. Over Reads r l ended.0) (sym are)
          (over-join Reads r moved.0 ended.0 front (line ∷ back) moved.2 (moved.1, moved.3, ended.1)),
      alike-on below.2 ended.2,
    )

-- ---- files

-- the line that a reading is at says nothing
alike-at : {r s : Reading} (line other : ℕ) → IsAlike r s → IsAlike (record r { line = line }) (record s { line = other })
alike-at line other h = record { seen = h.seen; names = h.names; units = h.units; kinds = h.kinds; uncounted = h.uncounted }

lines-of-files : LinesOne → (files lines : List (List ℕ)) (r q s : Reading) → IsAlike r q → AreLinesOf files lines
    → Over ReadsFile r files s → (t : Reading) × Over Reads q lines t × IsAlike s t
lines-of-files one [] lines r q s alike none e =
    (q, subst (λ l. Over Reads q l q) (sym none) refl, subst (λ p. IsAlike p q) e alike)
lines-of-files one (file ∷ files) lines r q s alike (front, back, are, of, is) (p, (own, same, over), rest) =
    let read : Over Reads (record r { line = 0 }) front p = subst (λ l. Over Reads (record r { line = 0 }) l p) (one file own front same are) over in
    let first = steps-alike (lines-add (record r { line = 0 }) p front read) (alike-at 0 q.line alike) in
    let others = lines-of-files one files back p first.0 s first.2 of rest in (
      others.0,
      subst (λ l. Over Reads q l others.0) (sym is) (over-join Reads q first.0 others.0 front back first.1 others.1),
      others.2,
    )

files-of-lines : (files lines : List (List ℕ)) (r q s : Reading) → IsAlike r q → AreLinesOf files lines
    → Over Reads r lines s → (t : Reading) × Over ReadsFile q files t × IsAlike s t
files-of-lines [] lines r q s alike none over =
    let e : r ≡ s = subst (λ l. Over Reads r l s) none over in
    (q, refl, subst (λ p. IsAlike p q) e alike)
files-of-lines (file ∷ files) lines r q s alike (front, back, are, of, is) over =
    let parts = over-split Reads r s front back (subst (λ l. Over Reads r l s) is over) in
    let first = steps-alike (lines-add r parts.0 front parts.1) (alike-at r.line 0 alike) in
    let others = files-of-lines files back parts.0 first.0 s first.2 of parts.2 in
    (others.0, (first.0, (front, are, first.1), others.1), others.2)

differ : (r s : Reading) → IsAlike r s → DifferInOrder r.rules s.rules
differ r s h = record {
  names = same-members r.rules.names s.rules.names h.names.0 h.names.1;
  units = same-members r.rules.units s.rules.units h.units.0 h.units.1;
  kinds = same-members r.rules.kinds s.rules.kinds h.kinds.0 h.kinds.1;
  uncounted = h.uncounted;
}

pub order-of-lines : LinesOne → (files others : List (List ℕ)) (s : Reading) → AreReordered files others
    → Over ReadsFile start files s → (t : Reading) × Over ReadsFile start others t × DifferInOrder s.rules t.rules
order-of-lines one files others s (lines, theirs, are, of, in-order) over =
    let first = lines-of-files one files lines start start s (alike-self start) are over in
    let second = reordered start first.0 lines theirs in-order first.1 in
    let third = files-of-lines others theirs start start second.0 (alike-self start) of second.1 in
    (third.0, third.1, differ s third.0 (alike-on first.2 (alike-on second.2 third.2)))
