-- Rules that are read are steady: nothing chains, since no node stands in two sets.
use Rattle.std.proofs.Common.{◌⊎◌, ◌≡◌, ◌≢◌, ℕ, ◌++◌, ◌∷◌, [], List, true, Option, None, Some, inl, inr, refl, sym, subst, ap, rules, ◌∙◌}
use Rattle.crs_decimal.specs.inner.Prelude.{Denotes, plain, IsNormal, Value, exact, zero}
use Rattle.crs_text.specs.inner.Prelude.{Item, Siblings, End, More, arguments}
use Rattle.crs_shape.specs.declared.class.Class.{Class}
use Rattle.crs_shape.specs.declared.class.Class.TheVariants as class
use Rattle.crs_shape.specs.declared.unit_kind.UnitKind.{UnitKind}
use Rattle.crs_shape.specs.declared.unit_kind.UnitKind.TheVariants as kind
use Rattle.crs_shape.specs.contracts.class.Class as classes
use Rattle.crs_shape.specs.contracts.unit_kind.UnitKind.{the_type}
use Rattle.crs_value.specs.inner.Prelude.{is_same}
use Rattle.crs_rules.specs.Rules.{NameAliasParts, ParameterKindParts, RulesParts, UnitAliasParts, is_name_alias, is_unit_alias, AreSteady, NamesAgree, UnitsAgree, unit_written}
use Rattle.crs_rules.specs.Members.{MemberParts, Says, SaysFactor, SaysName, kind_of}
use Rattle.crs_rules.specs.RulesFile.{Reads, ReadsFile, SpellsRules, next, start}
use Rattle.crs_rules.specs.Statements.{Adds, AddsSet, Drops, Joins, Over, Reading, Sorts, SortsAll, kind_node, listed, with_alias}
use Rattle.crs_rules.proofs.OneLemmas.{DenotesOne, some-one}
use Rattle.crs_rules.proofs.LineOrderLemmas.{Stands, each-of, stands-back, stands-front, stands-last}
use Rattle.crs_rules.proofs.WalkLemmas.{over-keeps}
use Rattle.std.specs.Str.{bytes_eq}
use Rattle.std.proofs.lemmas.Bool.{and_parts, false_from_ne_true}
use Rattle.std.proofs.lemmas.Slice.Eq.{bytes_eq-Decides}
use denote.Enum.Bare.{sameb, same_true}

-- ---- aliases of nodes `m x` that count as nodes `f x`

abbrev Agree : {X : Type 0} → (X → MemberParts) → (X → MemberParts) → X → X → Type 0
Agree m f x y = (f x ≢ m y) × (m x ≡ m y → f x ≡ f y)

record Firm {X : Type 0} (m f : X → MemberParts) (seen : List MemberParts) (xs : List X) : Type 0 where
  stand : (x : X) → Stands xs x → Stands seen (m x) × Stands seen (f x)
  agree : (x y : X) → Stands xs x → Stands xs y → Agree m f x y

-- and of which none counts as this node, which begins a set
record Begins {X : Type 0} (m f : X → MemberParts) (first : MemberParts) (seen : List MemberParts) (xs : List X) : Type 0 where
  firm : Firm m f seen xs
  free : (x : X) → Stands xs x → first ≢ m x

firm-none : {X : Type 0} (m f : X → MemberParts) → Firm m f [] []
firm-none m f = record { stand = λ x h. absurd h; agree = λ x y h. absurd h }

-- where one more node stands
firm-seen : {X : Type 0} {m f : X → MemberParts} {seen : List MemberParts} {xs : List X} (n : MemberParts) →
    Firm m f seen xs → Firm m f (seen ++ n ∷ []) xs
firm-seen n h = record {
  stand = λ x k. (stands-front _ (n ∷ []) _ (h.stand x k).0, stands-front _ (n ∷ []) _ (h.stand x k).1);
  agree = h.agree;
}

begins-first : {X : Type 0} {m f : X → MemberParts} {seen : List MemberParts} {xs : List X} (first : MemberParts) →
    Firm m f seen xs → ¬ (Stands seen first) → Begins m f first (seen ++ first ∷ []) xs
begins-first {seen = seen} first h new = record {
  firm = firm-seen first h;
  free = λ x k e. new (subst (Stands seen) (sym e) (h.stand x k).0);
}

begins-seen : {X : Type 0} {m f : X → MemberParts} {first : MemberParts} {seen : List MemberParts} {xs : List X} (n : MemberParts) →
    Begins m f first seen xs → Begins m f first (seen ++ n ∷ []) xs
begins-seen n h = record { firm = firm-seen n h.firm; free = h.free }

begins-on : {X : Type 0} {m f : X → MemberParts} {first : MemberParts} {seen : List MemberParts} {xs : List X} (x : X) (n : MemberParts) →
    m x ≡ n → f x ≡ first → Begins m f first seen xs → Stands seen first → ¬ (Stands seen n) → Begins m f first (seen ++ n ∷ []) (xs ++ x ∷ [])
begins-on {X = X} {m = m} {f = f} {first = first} {seen = seen} {xs = xs} x n is counts h stands new = record {
  firm = record {
    stand = λ y k. stand y (stands-last xs x y k);
    agree = λ y z k l. agree y z (stands-last xs x y k) (stands-last xs x z l);
  };
  free = λ y k. free y (stands-last xs x y k);
}
  where
    stand : (y : X) → Stands xs y ⊎ (y ≡ x) → Stands (seen ++ n ∷ []) (m y) × Stands (seen ++ n ∷ []) (f y)
    stand y (inl k) = (firm-seen n h.firm).stand y k
    stand y (inr e) = rw (e, is, counts) (stands-back seen (n ∷ []) n (inl refl), stands-front seen (n ∷ []) first stands)

    agree : (y z : X) → Stands xs y ⊎ (y ≡ x) → Stands xs z ⊎ (z ≡ x) → Agree m f y z
    agree y z (inl k) (inl l) = h.firm.agree y z k l
    agree y z (inl k) (inr e) = rw (e, is) (λ d. new (subst (Stands seen) d (h.firm.stand y k).1), λ d. absurd (new (subst (Stands seen) d (h.firm.stand y k).0)))
    agree y z (inr e) (inl l) = rw (e, is, counts) (h.free z l, λ d. absurd (new (subst (Stands seen) (sym d) (h.firm.stand z l).0)))
    agree y z (inr e) (inr d) = rw (e, d, is, counts) (λ k. new (subst (Stands seen) k stands), λ k. refl)

    free : (y : X) → Stands xs y ⊎ (y ≡ x) → first ≢ m y
    free y (inl k) = h.free y k
    free y (inr e) = rw (e, is) (λ d. new (subst (Stands seen) d stands))

-- ---- names and units

abbrev name_m : NameAliasParts → MemberParts
name_m a = record { class = a.class; name = a.alias; factor = zero }

abbrev name_f : NameAliasParts → MemberParts
name_f a = record { class = a.class; name = a.name; factor = zero }

abbrev class_of : UnitKind → Class
class_of kind.Length = class.LengthUnit
class_of kind.Angle = class.AngleUnit
class_of kind.Scale = class.ScaleUnit
class_of kind.Plain = class.PlainUnit

abbrev unit_m : UnitAliasParts → MemberParts
unit_m a = record { class = class_of a.kind; name = a.alias; factor = a.alias_factor }

abbrev unit_f : UnitAliasParts → MemberParts
unit_f a = record { class = class_of a.kind; name = a.name; factor = a.factor }

abbrev node_of : ParameterKindParts → MemberParts
node_of k = kind_node k.name

abbrev AreNormal : List MemberParts → Type 0
AreNormal seen = (n : MemberParts) → Stands seen n → IsNormal n.factor

normal-on : (seen : List MemberParts) (n : MemberParts) → AreNormal seen → IsNormal n.factor → AreNormal (seen ++ n ∷ [])
normal-on seen n normal one k stands = elim (stands-last seen n k stands) [
  | inl old ↦ normal k old
  | inr e ↦ subst (λ o. IsNormal o.factor) (sym e) one
]

-- the name of each declared kind stands, and has one kind
record AreKinds (seen : List MemberParts) (kinds : List ParameterKindParts) : Type 0 where
  stand : (k : ParameterKindParts) → Stands kinds k → Stands seen (node_of k)
  agree : (k j : ParameterKindParts) → Stands kinds k → Stands kinds j → k.name ≡ j.name → k.kind ≡ j.kind

kinds-seen : {seen : List MemberParts} {kinds : List ParameterKindParts} (n : MemberParts) → AreKinds seen kinds → AreKinds (seen ++ n ∷ []) kinds
kinds-seen n h = record { stand = λ k there. stands-front _ (n ∷ []) _ (h.stand k there); agree = h.agree }

kinds-on : {seen : List MemberParts} {kinds : List ParameterKindParts} (k : ParameterKindParts) → AreKinds seen kinds →
    ¬ (Stands seen (node_of k)) → AreKinds (seen ++ node_of k ∷ []) (kinds ++ k ∷ [])
kinds-on {seen = seen} {kinds = kinds} k h new = record {
  stand = λ j there. elim (stands-last kinds k j there) [
    | inl old ↦ (kinds-seen (node_of k) h).stand j old
    | inr e ↦ rw e (stands-back seen (node_of k ∷ []) (node_of k) (inl refl))
  ];
  agree = λ j i there here. agree j i (stands-last kinds k j there) (stands-last kinds k i here);
}
  where
    agree : (j i : ParameterKindParts) → Stands kinds j ⊎ (j ≡ k) → Stands kinds i ⊎ (i ≡ k) → j.name ≡ i.name → j.kind ≡ i.kind
    agree j i (inl a) (inl b) e = h.agree j i a b e
    agree j i (inl a) (inr b) e = absurd (new (subst (Stands seen) (ap kind_node (e ∙ ap (λ o. o.name) b)) (h.stand j a)))
    agree j i (inr a) (inl b) e = absurd (new (subst (Stands seen) (ap kind_node (sym e ∙ ap (λ o. o.name) a)) (h.stand i b)))
    agree j i (inr a) (inr b) e = ap (λ o. o.kind) (a ∙ sym b)

record Kept (seen : List MemberParts) (names : List NameAliasParts) (units : List UnitAliasParts) (kinds : List ParameterKindParts) : Type 0 where
  names_firm : Firm name_m name_f seen names
  units_firm : Firm unit_m unit_f seen units
  normal : AreNormal seen
  kinds_agree : AreKinds seen kinds

abbrev IsKept : Reading → Type 0
IsKept r = Kept r.seen r.rules.names r.rules.units r.rules.kinds

-- a node that begins a set stands, and counts as no other
record Begun (first : MemberParts) (r : Reading) : Type 0 where
  stands : Stands r.seen first
  names : Begins name_m name_f first r.seen r.rules.names
  units : Begins unit_m unit_f first r.seen r.rules.units
  normal : AreNormal r.seen
  kinds : AreKinds r.seen r.rules.kinds

-- ---- what a node says has a normal factor

abbrev Fits : Option UnitKind → Value → Type 0
Fits None v = v ≡ zero
Fits (Some k) v = IsNormal v

factor-fits : (o : Option UnitKind) (items : Siblings) (v : Value) → SaysFactor o items v → Fits o v
factor-fits None items v s = s.1
factor-fits (Some k) End v s = absurd s
factor-fits (Some k) (More i is) v s = s.1.1

name-fits : (items : Siblings) (m : MemberParts) → SaysName items m → Fits (kind_of m.class) m.factor
name-fits End m s = absurd s
name-fits (More i is) m s = factor-fits (kind_of m.class) is m.factor s.2

fits : (item : Item) (m : MemberParts) → Says item m → Fits (kind_of m.class) m.factor
fits item m says = name-fits (arguments item) m says.1

fits-normal : (o : Option UnitKind) (v : Value) → Fits o v → IsNormal v
fits-normal None v h = subst IsNormal (sym h) refl
fits-normal (Some k) v h = h

-- ---- the class of a kind

class-kind : (c : Class) (k : UnitKind) → kind_of c ≡ Some k → class_of k ≡ c
class-kind class.PlainUnit k e = sym (ap class_of (some-one _ kind.Plain k refl e))
class-kind class.LengthUnit k e = sym (ap class_of (some-one _ kind.Length k refl e))
class-kind class.AngleUnit k e = sym (ap class_of (some-one _ kind.Angle k refl e))
class-kind class.ScaleUnit k e = sym (ap class_of (some-one _ kind.Scale k refl e))
class-kind c k e = cc

-- ---- each step keeps it

begun : (first : MemberParts) (r s : Reading) (item : Item) → IsKept r → Adds None first r item s → Begun first s
begun first r s item h adds = subst (Begun first) (sym adds.adds) (record {
  stands = stands-back r.seen (first ∷ []) first (inl refl);
  names = begins-first first h.names_firm adds.new;
  units = begins-first first h.units_firm adds.new;
  normal = normal-on r.seen first h.normal (fits-normal (kind_of first.class) first.factor (fits item first adds.says));
  kinds = kinds-seen first h.kinds_agree;
})

with-kind : (o : Option UnitKind) (first m : MemberParts) (r : Reading) → kind_of first.class ≡ o → kind_of m.class ≡ o → Begun first r →
    ¬ (Stands r.seen m) → m.class ≡ first.class → Fits o m.factor → Fits o first.factor →
    Begun first (record r { seen = r.seen ++ m ∷ []; rules = with_alias o first m r.rules })
with-kind None first m r fo mo h new same mf ff = record {
  stands = stands-front r.seen (m ∷ []) first h.stands;
  names = begins-on (record { class = m.class; alias = m.name; name = first.name }) m
      (λ i. record { class = m.class; name = m.name; factor = sym mf i })
      (λ i. record { class = same i; name = first.name; factor = sym ff i }) h.names h.stands new;
  units = begins-seen m h.units;
  normal = normal-on r.seen m h.normal (fits-normal None m.factor mf);
  kinds = kinds-seen m h.kinds;
}
with-kind (Some k) first m r fo mo h new same mf ff =
    let mk = class-kind m.class k mo in
    let fk = class-kind first.class k fo in record {
      stands = stands-front r.seen (m ∷ []) first h.stands;
      names = begins-seen m h.names;
      units = begins-on (record { kind = k; alias = m.name; alias_factor = m.factor; name = first.name; factor = first.factor }) m
          (λ i. record { class = mk i; name = m.name; factor = m.factor })
          (λ i. record { class = fk i; name = first.name; factor = first.factor }) h.units h.stands new;
      normal = normal-on r.seen m h.normal mf;
      kinds = kinds-seen m h.kinds;
    }

joins : (first : MemberParts) → Fits (kind_of first.class) first.factor → (r s : Reading) (item : Item) → Begun first r →
    Joins first r item s → Begun first s
joins first ff r s item h (m, adds) =
    let same : kind_of m.class ≡ kind_of first.class = ap kind_of adds.class in
    subst (Begun first) (sym adds.adds)
    (with-kind (kind_of first.class) first m r refl same h adds.new adds.class
    (subst (λ o. Fits o m.factor) same (fits item m adds.says)) ff)

kept-set : (r s : Reading) (items : Siblings) → IsKept r → AddsSet r items s → IsKept s
kept-set r s End h adds = absurd adds
kept-set r s (More x xs) h (first, q, adds, over) =
    let k = over-keeps (Joins first) (Begun first) (joins first (fits x first adds.says)) q s (listed xs) (begun first r q x h adds) over in
    record { names_firm = k.names.firm; units_firm = k.units.firm; normal = k.normal; kinds_agree = k.kinds }

kept-drop : (r s : Reading) (item : Item) → IsKept r → Drops r item s → IsKept s
kept-drop r s item h (u, is, e) = subst IsKept (sym e) h

kept-sort : (k : UnitKind) (r s : Reading) (item : Item) → IsKept r → Sorts k r item s → IsKept s
kept-sort k r s item h (inl (is, e)) = subst IsKept (sym e) h
kept-sort k r s item h (inr (other, m, declares)) = let n : MemberParts = kind_node m.name in
    subst IsKept (sym declares.adds) (record {
      names_firm = firm-seen n h.names_firm;
      units_firm = firm-seen n h.units_firm;
      normal = normal-on r.seen n h.normal refl;
      kinds_agree = kinds-on (record { name = m.name; kind = k }) h.kinds_agree declares.new;
    })

kept-kind : (r s : Reading) (items : Siblings) → IsKept r → SortsAll r items s → IsKept s
kept-kind r s End h sorts = absurd sorts
kept-kind r s (More x xs) h (k, is, over) = over-keeps (Sorts k) IsKept (kept-sort k) r s (listed xs) h over

kept-line : (r s : Reading) (line : List ℕ) → IsKept r → Reads r line s → IsKept s
kept-line r s line h (inl (idle, e)) = subst IsKept (sym e) h
kept-line r s line h (inr (busy, item, spells, inl (is, adds))) = kept-set (next r) s (arguments item) h adds
kept-line r s line h (inr (busy, item, spells, inr (inl (is, drops)))) =
    over-keeps Drops IsKept kept-drop (next r) s (listed (arguments item)) h drops
kept-line r s line h (inr (busy, item, spells, inr (inr (is, sorts)))) = kept-kind (next r) s (arguments item) h sorts

kept-file : (r s : Reading) (bytes : List ℕ) → IsKept r → ReadsFile r bytes s → IsKept s
kept-file r s bytes h (lines, are, over) = over-keeps Reads IsKept kept-line (record r { line = 0 }) s lines h over

kept-start : IsKept start
kept-start = record {
  names_firm = firm-none name_m name_f;
  units_firm = firm-none unit_m unit_f;
  normal = λ n h. absurd h;
  kinds_agree = record { stand = λ k h. absurd h; agree = λ k j h. absurd h };
}

-- ---- what is kept is steady

alias-is : (c : Class) (name : List ℕ) (b : NameAliasParts) → is_name_alias c name b ≡ true →
    ◌≡◌ {A = MemberParts} (record { class = c; name = name; factor = zero }) (name_m b)
alias-is c name b t =
    let h = and_parts (is_same c b.class) (bytes_eq name b.alias) t in
    let class = same_true classes.the_type (search rules) b.class c h.0 in
    let alias = (bytes_eq-Decides name b.alias).0 h.1 in λ i. record { class = sym class i; name = alias i; factor = zero }

names-agree : (a b : NameAliasParts) → Agree name_m name_f a b → NamesAgree a b
names-agree a b g = record {
  steady = false_from_ne_true (is_name_alias a.class a.name b) (λ t. g.0 (alias-is a.class a.name b t));
  clear = λ t. ap (λ m. m.name) (g.1 (alias-is a.class a.alias b t));
}

abbrev pub PlainDenotes : Type 0
PlainDenotes = (v : Value) → IsNormal v → Denotes (plain v) (exact v)

unit-is : DenotesOne → PlainDenotes → (k : UnitKind) (name : List ℕ) (v : Value) (b : UnitAliasParts) → IsNormal v → IsNormal b.alias_factor →
    is_unit_alias (record { kind = k; name = name; factor = v; identifiers = [] }) b ≡ true →
    ◌≡◌ {A = MemberParts} (record { class = class_of k; name = name; factor = v }) (unit_m b)
unit-is one law k name v b nv nb t =
    let h = and_parts (sameb the_type k b.kind) _ t in
    let g = and_parts (bytes_eq name b.alias) _ h.1 in
    let kind = same_true the_type (search rules) k b.kind h.0 in
    let alias = (bytes_eq-Decides name b.alias).0 g.0 in
    let spelled = subst (λ s. Denotes s (exact v)) ((bytes_eq-Decides (plain v) (plain b.alias_factor)).0 g.1) (law v nv) in
    let factor = one (plain b.alias_factor) v b.alias_factor nv nb spelled (law b.alias_factor nb) in
    λ i. record { class = class_of (kind i); name = alias i; factor = factor i }

abbrev Normal : UnitAliasParts → Type 0
Normal a = IsNormal a.alias_factor × IsNormal a.factor

units-agree : DenotesOne → PlainDenotes → (a b : UnitAliasParts) → Normal a → Normal b → Agree unit_m unit_f a b → UnitsAgree a b
units-agree one law a b na nb g = record {
  steady = false_from_ne_true (is_unit_alias (unit_written a) b) (λ t. g.0 (unit-is one law a.kind a.name a.factor b na.1 nb.0 t));
  clear = λ t. let e = g.1 (unit-is one law a.kind a.alias a.alias_factor b na.0 nb.0 t) in (ap (λ m. m.name) e, ap (λ m. m.factor) e);
}

steady-of : DenotesOne → PlainDenotes → (r : Reading) → IsKept r → AreSteady r.rules
steady-of one law r h =
    let normal : (a : UnitAliasParts) → Stands r.rules.units a → Normal a =
    λ a k. (h.normal (unit_m a) (h.units_firm.stand a k).0, h.normal (unit_f a) (h.units_firm.stand a k).1) in
    record {
      names = each-of _ r.rules.names (λ a k. each-of _ r.rules.names (λ b l. names-agree a b (h.names_firm.agree a b k l)));
      units = each-of _ r.rules.units
          (λ a k. each-of _ r.rules.units (λ b l. units-agree one law a b (normal a k) (normal b l) (h.units_firm.agree a b k l)));
      kinds = each-of _ r.rules.kinds
          (λ a k. each-of _ r.rules.kinds (λ b l t. h.kinds_agree.agree a b k l ((bytes_eq-Decides a.name b.name).0 t)));
    }

pub steady : DenotesOne → PlainDenotes → (files : List (List ℕ)) (s : Reading) → Over ReadsFile start files s → AreSteady s.rules
steady one law files s over = steady-of one law s (over-keeps ReadsFile IsKept kept-file start s files kept-start over)

pub steady-alone : DenotesOne → PlainDenotes → (bytes : List ℕ) (rules : RulesParts) → SpellsRules bytes rules → AreSteady rules
steady-alone one law bytes rules (s, reads, e) =
    subst AreSteady (sym e) (steady-of one law s (kept-file start s bytes kept-start reads))
