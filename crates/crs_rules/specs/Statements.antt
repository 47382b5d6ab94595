-- The statements of a rules file: what each adds to those before it, or why it is refused.
use Rattle.std.specs.Prelude.{◌≡◌, ◌⊎◌, ◌&&◌, ℕ, IsTrue, IsFalse, IfSome, List, [], ◌∷◌, ◌++◌, Bool, true, false, Option, Some, None, codes, if◌then◌else◌}
use Rattle.std.specs.Str.{str_eq_ignore_ascii_case}
use denote.Enum.Bare.{sameb}
use Rattle.crs_decimal.specs.Numbers.{zero}
use Rattle.crs_text.specs.Items.{Item, leaf, node, Siblings, End, More, arguments, place_of, raw_of}
use Rattle.crs_text.specs.Tokens.{number, text, word}
use Rattle.crs_shape.specs.declared.class.Class.TheVariants as class
use Rattle.crs_shape.specs.declared.unit_kind.UnitKind.{UnitKind}
use Rattle.crs_shape.specs.declared.unit_kind.UnitKind.TheVariants as kind
use Rattle.crs_shape.specs.contracts.unit_kind.UnitKind.{the_type}
use Rattle.crs_value.specs.Reading.{OneIs}
use Rattle.crs_rules.specs.Rules.{RulesParts}
use Rattle.crs_rules.specs.declared.uncounted.Uncounted.{Uncounted}
use Rattle.crs_rules.specs.declared.file.fault.RulesFault.{RulesFault}
use Rattle.crs_rules.specs.declared.file.fault.RulesFault.TheVariants as faults
use Rattle.crs_rules.specs.declared.file.fault.RulesRefusal.{RulesRefusal}
use Rattle.crs_rules.specs.Members.{MemberParts, Says, kind_of}

-- what is known of a file before a statement: the number of its line, the nodes that stood so far, and the rules
pub record Reading : Type 0 where
  pub line : ℕ
  pub seen : List MemberParts
  pub rules : RulesParts

-- ---- one after another

-- each of these in turn leads from one reading to the next, and all from the first to the last
abbrev pub Over : {A : Type 0} → (Reading → A → Reading → Type 0) → Reading → List A → Reading → Type 0
Over Step r [] s = r ≡ s
Over Step r (x ∷ xs) s = (q : Reading) × Step r x q × Over Step q xs s

-- the first of these that leads no further is at fault
abbrev pub FaultOver : {A : Type 0} → (Reading → A → Reading → Type 0) →
    (Reading → A → RulesRefusal → Type 0) → Reading → List A → RulesRefusal → Type 0
FaultOver Step Fault r [] f = ⊥
FaultOver Step Fault r (x ∷ xs) f = Fault r x f ⊎ ((q : Reading) × Step r x q × FaultOver Step Fault q xs f)

-- the items in order
abbrev pub listed : Siblings → List Item
listed End = []
listed (More item items) = item ∷ listed items

-- this line is refused with this number, at an item's first byte
abbrev pub refused_at : ℕ → ℕ → Item → RulesRefusal
refused_at n line item = record { line = line; number = n; place = place_of item }

-- a fault that is a refusal is one of these
abbrev pub IsRefusedBy : (RulesRefusal → Type 0) → RulesFault → Type 0
IsRefusedBy Fault (faults.Refused f) = Fault f
IsRefusedBy Fault (faults.Memory e) = Unit {0}

-- ---- SAME

-- a node counts as the first of its set
abbrev pub with_alias : Option UnitKind → MemberParts → MemberParts → RulesParts → RulesParts
with_alias None first m rules = record rules {
  names = rules.names ++ record { class = m.class; alias = m.name; name = first.name } ∷ [];
}
with_alias (Some k) first m rules = record rules {
  units = rules.units ++ record {
    kind = k;
    alias = m.name;
    alias_factor = m.factor;
    name = first.name;
    factor = first.factor;
  } ∷ [];
}

-- a node counts as the first of its set, if it isn't itself the first
abbrev pub joined : Option MemberParts → MemberParts → RulesParts → RulesParts
joined None m rules = rules
joined (Some first) m rules = with_alias (kind_of first.class) first m rules

-- a node is of the class of its set
abbrev pub IsOfSet : Option MemberParts → MemberParts → Type 0
IsOfSet first m = IfSome first (λ f. m.class ≡ f.class)

-- a node is of the class of its set, and stood in no set before
pub record Adds (first : Option MemberParts) (m : MemberParts) (r : Reading) (item : Item) (s : Reading)
    : Type 0 where
  pub says : Says item m
  pub class : IsOfSet first m
  pub new : ¬ (OneIs (λ n. m ≡ n) r.seen)
  pub adds : s ≡ record r { seen = r.seen ++ m ∷ []; rules = joined first m r.rules }

-- 42: no node that may stand there; 43: of another class than the set; 44: it stood in a set before
abbrev pub FaultOfNode : Option MemberParts → Reading → Item → RulesRefusal → Type 0
FaultOfNode first r item f =
    ((f ≡ refused_at 42 r.line item) × ((m : MemberParts) → ¬ (Says item m)))
    ⊎ ((m : MemberParts) × Says item m ×
    (((f ≡ refused_at 43 r.line item) × ¬ (IsOfSet first m))
    ⊎ ((f ≡ refused_at 44 r.line item) × IsOfSet first m × OneIs (λ n. m ≡ n) r.seen)))

-- a further node of the set that this one begins
abbrev pub Joins : MemberParts → Reading → Item → Reading → Type 0
Joins first r item s = (m : MemberParts) × Adds (Some first) m r item s

-- the nodes of a set
abbrev pub AddsSet : Reading → Siblings → Reading → Type 0
AddsSet r End s = ⊥
AddsSet r (More item items) s =
    (first : MemberParts) × (q : Reading) × Adds None first r item q
    × Over (Joins first) q (listed items) s

-- the fault of a set
abbrev pub FaultOfSet : Reading → Siblings → RulesRefusal → Type 0
FaultOfSet r End f = ⊥
FaultOfSet r (More item items) f =
    FaultOfNode None r item f
    ⊎ ((first : MemberParts) × (q : Reading) × Adds None first r item q
    × FaultOver (Joins first) (FaultOfNode (Some first)) q (listed items) f)

-- ---- UNCOUNTED

-- what doesn't count, with what a word names; none where it names nothing
abbrev pub with_word : List ℕ → Uncounted → Option Uncounted
with_word raw u =
    if str_eq_ignore_ascii_case (codes "crsName") raw then Some (record u { crs_names = true })
    else (if str_eq_ignore_ascii_case (codes "baseName") raw then Some (record u { base_names = true })
    else (if str_eq_ignore_ascii_case (codes "conversionName") raw then Some (record u { conversion_names = true })
    else (if str_eq_ignore_ascii_case (codes "axisName") raw then Some (record u { axis_names = true })
    else (if str_eq_ignore_ascii_case (codes "dynamic") raw then Some (record u { dynamics = true })
    else (if str_eq_ignore_ascii_case (codes "anchor") raw then Some (record u { anchors = true })
    else (if str_eq_ignore_ascii_case (codes "geoidModel") raw then Some (record u { geoid_models = true })
    else (if str_eq_ignore_ascii_case (codes "baseUnit") raw then Some (record u { base_units = true })
    else (if str_eq_ignore_ascii_case (codes "ensemble") raw then Some (record u { ensembles = true })
    else (if str_eq_ignore_ascii_case (codes "axisOrder") raw then Some (record u { axis_order = true })
    else None)))))))))

-- the same with what an item names, which is a word by itself
abbrev pub with_item : Item → Uncounted → Option Uncounted
with_item (leaf number place raw) u = None
with_item (leaf text place raw) u = None
with_item (leaf word place raw) u = with_word raw u
with_item (node place keyword square first others close) u = None

-- what an item names doesn't count
abbrev pub Drops : Reading → Item → Reading → Type 0
Drops r item s =
    (u : Uncounted) × (with_item item r.rules.uncounted ≡ Some u)
    × (s ≡ record r { rules = record r.rules { uncounted = u } })

-- 42: an item that names nothing
abbrev pub FaultOfWord : Reading → Item → RulesRefusal → Type 0
FaultOfWord r item f = (f ≡ refused_at 42 r.line item) × (with_item item r.rules.uncounted ≡ None)

-- ---- KIND

-- the kind that a word names; none where it names none
abbrev pub kind_named : List ℕ → Option UnitKind
kind_named raw =
    if str_eq_ignore_ascii_case (codes "ANGLEUNIT") raw then Some kind.Angle
    else (if str_eq_ignore_ascii_case (codes "LENGTHUNIT") raw then Some kind.Length
    else (if str_eq_ignore_ascii_case (codes "SCALEUNIT") raw then Some kind.Scale else None))

-- the kind that an item names, which is a word by itself
abbrev pub kind_in : Item → Option UnitKind
kind_in (leaf number place raw) = None
kind_in (leaf text place raw) = None
kind_in (leaf word place raw) = kind_named raw
kind_in (node place keyword square first others close) = None

-- whether a word names all prime meridians, whose longitudes are angles
abbrev pub meridian_named : UnitKind → List ℕ → Bool
meridian_named k raw = sameb the_type k kind.Angle && str_eq_ignore_ascii_case (codes "PRIMEM") raw

-- whether an item does, which is a word by itself
abbrev pub is_meridian : UnitKind → Item → Bool
is_meridian k (leaf number place raw) = false
is_meridian k (leaf text place raw) = false
is_meridian k (leaf word place raw) = meridian_named k raw
is_meridian k (node place keyword square first others close) = false

-- the name of parameters of a `KIND`, among the nodes that stood; no `SAME` has nodes of this class
abbrev pub kind_node : List ℕ → MemberParts
kind_node name = record { class = class.Conversion; name = name; factor = zero }

-- numbers of parameters of this name are of this kind
abbrev pub with_kind : UnitKind → List ℕ → Reading → Reading
with_kind k name r = record r {
  seen = r.seen ++ kind_node name ∷ [];
  rules = record r.rules { kinds = r.rules.kinds ++ record { name = name; kind = k } ∷ [] };
}

-- prime meridians may leave out their unit
abbrev pub with_meridians : Reading → Reading
with_meridians r = record r { rules = record r.rules { uncounted = record r.rules.uncounted { meridian_units = true } } }

-- a node says that it is one of parameters
abbrev pub SaysParameter : Item → MemberParts → Type 0
SaysParameter item m = Says item m × (m.class ≡ class.Parameter)

-- a node names parameters, which stood in no `KIND` before
pub record Declares (k : UnitKind) (m : MemberParts) (r : Reading) (item : Item) (s : Reading) : Type 0 where
  pub says : SaysParameter item m
  pub new : ¬ (OneIs (λ n. kind_node m.name ≡ n) r.seen)
  pub adds : s ≡ with_kind k m.name r

-- an item of this kind: all prime meridians, or parameters
abbrev pub Sorts : UnitKind → Reading → Item → Reading → Type 0
Sorts k r item s =
    (IsTrue (is_meridian k item) × (s ≡ with_meridians r))
    ⊎ (IsFalse (is_meridian k item) × (m : MemberParts) × Declares k m r item s)

-- 42: neither all prime meridians nor parameters; 44: it stood in a `KIND` before
abbrev pub FaultOfSort : UnitKind → Reading → Item → RulesRefusal → Type 0
FaultOfSort k r item f =
    IsFalse (is_meridian k item) ×
    (((f ≡ refused_at 42 r.line item) × ((m : MemberParts) → ¬ (SaysParameter item m)))
    ⊎ ((m : MemberParts) × SaysParameter item m
    × (f ≡ refused_at 44 r.line item) × OneIs (λ n. kind_node m.name ≡ n) r.seen))

-- a kind, and what is of it
abbrev pub SortsAll : Reading → Siblings → Reading → Type 0
SortsAll r End s = ⊥
SortsAll r (More item items) s = (k : UnitKind) × (kind_in item ≡ Some k) × Over (Sorts k) r (listed items) s

-- the fault of a kind, or of what is of it; 42: an item that names no kind
abbrev pub FaultOfKind : Reading → Siblings → RulesRefusal → Type 0
FaultOfKind r End f = ⊥
FaultOfKind r (More item items) f =
    ((f ≡ refused_at 42 r.line item) × (kind_in item ≡ None))
    ⊎ ((k : UnitKind) × (kind_in item ≡ Some k) × FaultOver (Sorts k) (FaultOfSort k) r (listed items) f)

-- ---- statements

-- whether an item is the statement of this keyword, letter case aside
abbrev pub is_statement : List ℕ → Item → Bool
is_statement keyword item = str_eq_ignore_ascii_case keyword (raw_of item)

-- a statement leads from one reading to another
abbrev pub States : Reading → Item → Reading → Type 0
States r item s =
    (IsTrue (is_statement (codes "SAME") item) × AddsSet r (arguments item) s)
    ⊎ ((IsTrue (is_statement (codes "UNCOUNTED") item) × Over Drops r (listed (arguments item)) s)
    ⊎ (IsTrue (is_statement (codes "KIND") item) × SortsAll r (arguments item) s))

-- the fault of a statement; 41: it is none of them
abbrev pub FaultOfStatement : Reading → Item → RulesRefusal → Type 0
FaultOfStatement r item f =
    (IsTrue (is_statement (codes "SAME") item) × FaultOfSet r (arguments item) f)
    ⊎ ((IsTrue (is_statement (codes "UNCOUNTED") item)
    × FaultOver Drops FaultOfWord r (listed (arguments item)) f)
    ⊎ ((IsTrue (is_statement (codes "KIND") item) × FaultOfKind r (arguments item) f)
    ⊎ ((f ≡ refused_at 41 r.line item) × IsFalse (is_statement (codes "SAME") item)
    × IsFalse (is_statement (codes "UNCOUNTED") item) × IsFalse (is_statement (codes "KIND") item))))
