-- Names and units that are looked for by their digests are found: those that pass have the digest.
use Rattle.std.proofs.Common.{◌≡◌, ℕ, true, List, [], ◌∷◌, ap, sym}
use Rattle.crs_decimal.specs.inner.Prelude.{Denotes, plain, IsNormal, Value, exact}
use Rattle.crs_shape.specs.declared.class.Class.{Class}
use Rattle.crs_shape.specs.declared.class.Class.TheVariants as class
use Rattle.crs_value.specs.Sound.{Each}
use Rattle.crs_value.specs.inner.Prelude.{UnitParts}
use Rattle.crs_rules.specs.inner.Firsts.{name_digest, unit_digest}
use Rattle.crs_rules.specs.Rules.{NameAliasParts, ParameterKindParts, UnitAliasParts, is_declared, is_name_alias, is_unit_alias, IsUnitAlias}
use Rattle.crs_rules.proofs.FactorLemmas.{one-plain}
use Rattle.crs_rules.proofs.MatchLemmas.{of-declared, of-name, of-unit}

abbrev pub digest_of_name : NameAliasParts → ℕ
digest_of_name a = name_digest a.class a.alias

pub names-have : (c : Class) (name : List ℕ) (xs : List NameAliasParts)
    → Each (λ a. is_name_alias c name a ≡ true → digest_of_name a ≡ name_digest c name) xs
names-have c name [] = tt
names-have c name (a ∷ xs) = (
  λ e. let k = of-name c name a e in sym (λ i. name_digest (k.class i) (k.alias i)),
  names-have c name xs,
)

abbrev pub digest_of_kind : ParameterKindParts → ℕ
digest_of_kind k = name_digest class.Parameter k.name

pub kinds-have : (name : List ℕ) (xs : List ParameterKindParts)
    → Each (λ k. is_declared name k ≡ true → digest_of_kind k ≡ name_digest class.Parameter name) xs
kinds-have name [] = tt
kinds-have name (k ∷ xs) = (λ e. ap (name_digest class.Parameter) (sym (of-declared name k e)), kinds-have name xs)

abbrev pub digest_of_unit : UnitAliasParts → ℕ
digest_of_unit a = unit_digest a.alias a.alias_factor.digits

pub units-have : ((bytes : List ℕ) (a b : Value) → IsNormal a → IsNormal b → Denotes bytes (exact a) → Denotes bytes (exact b) → a ≡ b)
    → ((v : Value) → IsNormal v → Denotes (plain v) (exact v)) → (u : UnitParts) → IsNormal u.factor
    → (xs : List UnitAliasParts) → Each IsUnitAlias xs
    → Each (λ a. is_unit_alias u a ≡ true → digest_of_unit a ≡ unit_digest u.name u.factor.digits) xs
units-have one denotes u normal [] h = tt
units-have one denotes u normal (a ∷ xs) h = (
  λ e. let k = of-unit u a e in
      let f = one-plain one denotes u.factor a.alias_factor normal h.0.alias_factor k.factor in
      sym (λ i. unit_digest (k.alias i) (f i).digits),
  units-have one denotes u normal xs h.1,
)
