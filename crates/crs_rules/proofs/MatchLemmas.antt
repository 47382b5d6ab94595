-- What an alias and what it is of have in common.
use Rattle.std.proofs.Common.{◌≡◌, ℕ, true, List, sym, rules}
use Rattle.std.specs.Str.{bytes_eq}
use Rattle.std.proofs.lemmas.Bool.{and_parts}
use Rattle.std.proofs.lemmas.Slice.Eq.{bytes_eq-Decides}
use denote.Enum.Bare.{sameb, same_true}
use Rattle.crs_decimal.specs.inner.Prelude.{plain}
use Rattle.crs_shape.specs.declared.class.Class.{Class}
use Rattle.crs_shape.specs.contracts.class.Class as classes
use Rattle.crs_shape.specs.contracts.unit_kind.UnitKind.{the_type}
use Rattle.crs_value.specs.inner.Prelude.{is_same, UnitParts}
use Rattle.crs_rules.specs.Rules.{NameAliasParts, UnitAliasParts, is_name_alias, is_unit_alias, ParameterKindParts, is_declared}

pub record OfName (c : Class) (name : List ℕ) (a : NameAliasParts) : Type 0 where
  pub class : c ≡ a.class
  pub alias : name ≡ a.alias

pub of-name : (c : Class) (name : List ℕ) (a : NameAliasParts) → is_name_alias c name a ≡ true → OfName c name a
of-name c name a e =
    let h = and_parts (is_same c a.class) (bytes_eq name a.alias) e in
    record { class = sym (same_true classes.the_type (search rules) a.class c h.0); alias = (bytes_eq-Decides name a.alias).0 h.1 }

pub of-declared : (name : List ℕ) (k : ParameterKindParts) → is_declared name k ≡ true → name ≡ k.name
of-declared name k e = (bytes_eq-Decides name k.name).0 e

pub record OfUnit (u : UnitParts) (a : UnitAliasParts) : Type 0 where
  pub kind : u.kind ≡ a.kind
  pub alias : u.name ≡ a.alias
  pub factor : plain u.factor ≡ plain a.alias_factor

pub of-unit : (u : UnitParts) (a : UnitAliasParts) → is_unit_alias u a ≡ true → OfUnit u a
of-unit u a e =
    let h = and_parts (sameb the_type u.kind a.kind) _ e in
    let k = and_parts (bytes_eq u.name a.alias) _ h.1 in
    record {
      kind = same_true the_type (search rules) _ _ h.0;
      alias = (bytes_eq-Decides u.name a.alias).0 k.0;
      factor = (bytes_eq-Decides _ _).0 k.1;
    }
