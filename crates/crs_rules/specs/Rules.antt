-- Rules, as callers see them: which names and units count as others, what doesn't count, and of which kinds the numbers
-- of parameters are.
use mathlib.Core.Bool.{beq}
use Rattle.std.specs.Prelude.{ℕ, ◌&&◌, ◌-◌, Bool, List, [], ◌∷◌, Option, Some, None, codes, length, if◌then◌else◌, nat_eq, take, false, ◌≡◌, true}
use Rattle.std.specs.List.{ends_with}
use Rattle.std.specs.Ordering.{int_eq}
use Rattle.std.specs.Str.{bytes_eq}
use denote.Enum.Bare.{sameb}
use Rattle.crs_decimal.specs.Numbers.{plain, Value, IsNormal}
use Rattle.crs_shape.specs.declared.class.Class.{Class}
use Rattle.crs_shape.specs.declared.unit_kind.UnitKind.{UnitKind}
use Rattle.crs_shape.specs.declared.unit_kind.UnitKind.TheVariants as kinds
use Rattle.crs_shape.specs.contracts.unit_kind.UnitKind.{the_type}
use Rattle.crs_value.specs.Reading.{is_same}
use Rattle.crs_value.specs.Values.{UnitParts}
use Rattle.crs_rules.specs.declared.uncounted.Uncounted.{Uncounted}
use Rattle.crs_value.specs.Checks.{IsAboveZero}
use Rattle.crs_value.specs.Sound.{Each, IsText}
use Rattle.crs_normal.specs.Normal.{IsIn}

-- a name of nodes of a class that counts as another name, which is written for it
pub record NameAliasParts : Type 0 where
  pub class : Class
  pub alias : List ℕ
  pub name : List ℕ

-- a name and a factor of units of a kind that count as another name and factor, which are written for them
pub record UnitAliasParts : Type 0 where
  pub kind : UnitKind
  pub alias : List ℕ
  pub alias_factor : Value
  pub name : List ℕ
  pub factor : Value

-- a name of parameters whose numbers are of a kind
pub record ParameterKindParts : Type 0 where
  pub name : List ℕ
  pub kind : UnitKind

-- rules: the names and the units that count as others, what doesn't count, and the kinds of parameters
pub record RulesParts : Type 0 where
  pub names : List NameAliasParts
  pub units : List UnitAliasParts
  pub uncounted : Uncounted
  pub kinds : List ParameterKindParts

-- whether two factors are equal: both are in their normal form
abbrev pub factors_equal : Value → Value → Bool
factors_equal a b = beq a.negative b.negative && (nat_eq a.digits b.digits && int_eq a.power b.power)

-- the first of some that passes a test, if one does
abbrev pub first_that : {A : Type 0} → (A → Bool) → List A → Option A
first_that test [] = None
first_that test (x ∷ xs) = if test x then Some x else first_that test xs

-- whether a name of a node of this class is that of an alias
abbrev pub is_name_alias : Class → List ℕ → NameAliasParts → Bool
is_name_alias c name a = is_same c a.class && bytes_eq name a.alias

-- a name, or the one that is written for an alias
abbrev pub name_for : List ℕ → Option NameAliasParts → List ℕ
name_for name None = name
name_for name (Some a) = a.name

-- the name that is written for a name of a node of this class
abbrev pub first_name : List NameAliasParts → Class → List ℕ → List ℕ
first_name aliases c name = name_for name (first_that (is_name_alias c name) aliases)

-- whether a unit has the kind, the name and, by its value, the factor of an alias
abbrev pub is_unit_alias : UnitParts → UnitAliasParts → Bool
is_unit_alias u a =
    sameb the_type u.kind a.kind
    && (bytes_eq u.name a.alias && bytes_eq (plain u.factor) (plain a.alias_factor))

-- a unit, or the unit with the name and the factor that are written for an alias
abbrev pub unit_for : UnitParts → Option UnitAliasParts → UnitParts
unit_for u None = u
unit_for u (Some a) = record u { name = a.name; factor = a.factor }

-- a unit with the name and the factor that are written for its own
abbrev pub first_unit : List UnitAliasParts → UnitParts → UnitParts
first_unit aliases u = unit_for u (first_that (is_unit_alias u) aliases)

-- whether a declared kind is that of this name
abbrev pub is_declared : List ℕ → ParameterKindParts → Bool
is_declared name k = bytes_eq name k.name

-- a declared kind, or else the plain one, which says nothing
abbrev pub kind_or_plain : Option ParameterKindParts → UnitKind
kind_or_plain None = kinds.Plain
kind_or_plain (Some k) = k.kind

-- the kind of the numbers of parameters of this name
abbrev pub declared_kind : List ParameterKindParts → List ℕ → UnitKind
declared_kind declared name = kind_or_plain (first_that (is_declared name) declared)

-- what rules do: which name is written for a name of a node of a class, and which unit for a unit;
-- what doesn't count; and of which kind the numbers of parameters of a name are
pub record Meaning : Type 0 where
  pub name : Class → List ℕ → List ℕ
  pub unit : UnitParts → UnitParts
  pub uncounted : Uncounted
  pub kind : List ℕ → UnitKind

-- what these rules do
abbrev pub meaning : RulesParts → Meaning
meaning r = record {
  name = first_name r.names;
  unit = first_unit r.units;
  uncounted = r.uncounted;
  kind = declared_kind r.kinds;
}

-- a name without one ` ensemble` at its end
abbrev pub without_ensemble : List ℕ → List ℕ
without_ensemble name = if ends_with nat_eq name (codes " ensemble") then take (length name - 9) name else name

-- ---- no rules

-- everything counts
abbrev pub nothing : Uncounted
nothing = record {
  crs_names = false;
  base_names = false;
  conversion_names = false;
  axis_names = false;
  dynamics = false;
  anchors = false;
  geoid_models = false;
  base_units = false;
  ensembles = false;
  axis_order = false;
  meridian_units = false;
}

-- rules by which nothing counts as another, everything counts, and no kinds are known
abbrev pub no_rules : RulesParts
no_rules = record { names = []; units = []; uncounted = nothing; kinds = [] }

-- ---- what is asked of rules: what they write is accepted

-- what is asked of an alias of a name: the name that is written is a text
abbrev pub IsNameAlias : NameAliasParts → Type 0
IsNameAlias a = IsText a.name

-- what is asked of an alias of a unit: the name that is written is a text, and both factors are
-- decimals in their normal form, the written one above zero
pub record IsUnitAlias (a : UnitAliasParts) : Type 0 where
  pub name : IsText a.name
  pub factor : IsNormal a.factor
  pub above_zero : IsAboveZero a.factor
  pub alias_factor : IsNormal a.alias_factor

-- what is asked of rules: each of their aliases is as asked
pub record AreRules (r : RulesParts) : Type 0 where
  pub names : Each IsNameAlias r.names
  pub units : Each IsUnitAlias r.units

-- ---- rules by which nothing chains, and whose order says nothing

-- the unit that counts as another by an alias
abbrev pub unit_that_counts : UnitAliasParts → UnitParts
unit_that_counts a = record { kind = a.kind; name = a.alias; factor = a.alias_factor; identifiers = [] }

-- the unit that is written for an alias
abbrev pub unit_written : UnitAliasParts → UnitParts
unit_written a = record { kind = a.kind; name = a.name; factor = a.factor; identifiers = [] }

-- two aliases of names: what the one writes is no alias of the other; if both are of one name, both write one name
pub record NamesAgree (a b : NameAliasParts) : Type 0 where
  pub steady : is_name_alias a.class a.name b ≡ false
  pub clear : is_name_alias a.class a.alias b ≡ true → a.name ≡ b.name

-- two aliases of units: what the one writes is no alias of the other; if both are of one unit, both
-- write one name and one factor
pub record UnitsAgree (a b : UnitAliasParts) : Type 0 where
  pub steady : is_unit_alias (unit_written a) b ≡ false
  pub clear : is_unit_alias (unit_that_counts a) b ≡ true → (a.name ≡ b.name) × (a.factor ≡ b.factor)

-- two declared kinds: if both are of one name, they are one
abbrev pub KindsAgree : ParameterKindParts → ParameterKindParts → Type 0
KindsAgree a b = is_declared a.name b ≡ true → a.kind ≡ b.kind

-- nothing chains, and the order of aliases and kinds says nothing: each agrees with each
pub record AreSteady (r : RulesParts) : Type 0 where
  pub names : Each (λ a. Each (NamesAgree a) r.names) r.names
  pub units : Each (λ a. Each (UnitsAgree a) r.units) r.units
  pub kinds : Each (λ a. Each (KindsAgree a) r.kinds) r.kinds

-- ---- rules in another order

-- each of either list is one of the other
abbrev pub HaveSameMembers : {A : Type 0} → List A → List A → Type 0
HaveSameMembers xs ys = Each (λ x. IsIn x ys) xs × Each (λ y. IsIn y xs) ys

-- the rules differ in the order and the repeats of their aliases and kinds alone
pub record DifferInOrder (r s : RulesParts) : Type 0 where
  pub names : HaveSameMembers r.names s.names
  pub units : HaveSameMembers r.units s.units
  pub uncounted : r.uncounted ≡ s.uncounted
  pub kinds : HaveSameMembers r.kinds s.kinds
