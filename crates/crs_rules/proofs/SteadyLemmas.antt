-- Steady rules leave what they write as it is, and write one thing for each name and unit.
use Rattle.std.proofs.Common.{◌≡◌, ℕ, Bool, false, Option, Some, None, List, [], ◌∷◌, refl, inl, inr}
use Rattle.crs_shape.specs.declared.class.Class.{Class}
use Rattle.crs_normal.specs.inner.Prelude.{IsIn}
use Rattle.crs_value.specs.NamedValues.{IdentParts}
use Rattle.crs_value.specs.inner.Prelude.{UnitParts}
use Rattle.crs_value.specs.Sound.{Each}
use Rattle.crs_rules.specs.Rules.{Meaning, NameAliasParts, RulesParts, UnitAliasParts, first_name, first_that, first_unit, is_name_alias, is_unit_alias, meaning, unit_for, AreSteady, NamesAgree, UnitsAgree, KindsAgree}
use Rattle.crs_rules.proofs.MatchLemmas.{of-name, of-unit, of-declared}
use Rattle.crs_rules.proofs.OrderLemmas.{AreClear, Sought, each-in, sought}

-- units keep their kind and their identifiers
pub record KeepsKinds (m : Meaning) : Type 0 where
  pub kind : (u : UnitParts) → (m.unit u).kind ≡ u.kind
  pub identifiers : (u : UnitParts) → (m.unit u).identifiers ≡ u.identifiers

-- names and units stay when they are written again
pub record IsSteady (m : Meaning) : Type 0 where
  pub name : (c : Class) (n : List ℕ) → m.name c (m.name c n) ≡ m.name c n
  pub kinds : KeepsKinds m
  pub unit : (u : UnitParts) (ids : List IdentParts) →
      m.unit (record (m.unit u) { identifiers = ids }) ≡ record (m.unit u) { identifiers = ids }

-- where a property keeps what has it from passing, none passes
none-first : {A : Type 0} (P : A → Type 0) (test : A → Bool) → ((x : A) → P x → test x ≡ false) → (xs : List A) →
    Each P xs → first_that test xs ≡ None
none-first P test fails [] h = refl
none-first P test fails (x ∷ xs) h = rw (fails x h.0) (none-first P test fails xs h.1)

-- ---- one thing is written

agree : {A : Type 0} (R : A → A → Type 0) (xs : List A) → Each (λ a. Each (R a) xs) xs → (a b : A) → IsIn a xs → IsIn b xs → R a b
agree R xs h a b i j = each-in (R a) b xs (each-in (λ x. Each (R x) xs) a xs h i) j

pub clear : (r : RulesParts) → AreSteady r → AreClear r
clear r h = record {
  names = λ c name a b i j p q.
      let k = of-name c name a p in (agree NamesAgree r.names h.names a b i j).clear (rw (k.class, k.alias) at q);
  units = λ u a b i j p q.
      let k = of-unit u a p in (agree UnitsAgree r.units h.units a b i j).clear (rw (k.kind, k.alias, k.factor) at q);
  kinds = λ n a b i j p q. agree KindsAgree r.kinds h.kinds a b i j (rw (of-declared n a p) at q);
}

-- ---- what is written stays

kept : (u : UnitParts) (o : Option UnitAliasParts) → ((unit_for u o).kind ≡ u.kind) × ((unit_for u o).identifiers ≡ u.identifiers)
kept u None = (refl, refl)
kept u (Some a) = (refl, refl)

name-by : (r : RulesParts) → AreSteady r → (c : Class) (n : List ℕ) → Sought (is_name_alias c n) r.names →
    first_name r.names c (first_name r.names c n) ≡ first_name r.names c n
name-by r h c n (inl k) =
    let a : NameAliasParts = k.0 in
    rw (
      k.3,
      none-first (NamesAgree a) (is_name_alias c a.name) (λ b g. rw (of-name c n a k.2).class g.steady) r.names
          (each-in (λ x. Each (NamesAgree x) r.names) a r.names h.names k.1),
    )
name-by r h c n (inr k) = simp k.1

unit-by : (r : RulesParts) → AreSteady r → (u : UnitParts) (ids : List IdentParts) → Sought (is_unit_alias u) r.units →
    ◌≡◌ {A = UnitParts} (first_unit r.units (record (first_unit r.units u) { identifiers = ids }))
    (record (first_unit r.units u) { identifiers = ids })
unit-by r h u ids (inl k) =
    let a : UnitAliasParts = k.0 in
    let w : UnitParts = record (unit_for u (Some a)) { identifiers = ids } in
    rw (
      k.3,
      none-first (UnitsAgree a) (is_unit_alias w) (λ b g. rw (of-unit u a k.2).kind g.steady) r.units
          (each-in (λ x. Each (UnitsAgree x) r.units) a r.units h.units k.1),
    )
unit-by r h u ids (inr k) = simp k.1

pub kinds-kept : (r : RulesParts) → KeepsKinds (meaning r)
kinds-kept r = record {
  kind = λ u. (kept u (first_that (is_unit_alias u) r.units)).0;
  identifiers = λ u. (kept u (first_that (is_unit_alias u) r.units)).1;
}

pub steady : (r : RulesParts) → AreSteady r → IsSteady (meaning r)
steady r h = record {
  name = λ c n. name-by r h c n (sought (is_name_alias c n) r.names);
  kinds = kinds-kept r;
  unit = λ u ids. unit-by r h u ids (sought (is_unit_alias u) r.units);
}
