-- Rules that differ in their order alone do the same.
use Rattle.std.proofs.Common.{◌≡◌, ◌⊎◌, ℕ, Bool, true, false, Option, Some, None, List, [], ◌∷◌, refl, subst, inl, inr}
use Rattle.crs_normal.specs.inner.Prelude.{IsIn}
use Rattle.crs_shape.specs.declared.class.Class.{Class}
use Rattle.crs_value.specs.Sound.{Each}
use Rattle.crs_value.specs.inner.Prelude.{UnitParts}
use Rattle.crs_value.specs.declared.values.level.Level.{Level}
use Rattle.crs_writer.specs.inner.Prelude.{IsCanonicalText}
use Rattle.crs_rules.specs.Rules.{DifferInOrder, HaveSameMembers, NameAliasParts, RulesParts, UnitAliasParts, first_name, first_that, first_unit, is_name_alias, is_unit_alias, meaning, name_for, unit_for, ParameterKindParts, declared_kind, is_declared, kind_or_plain}
use Rattle.crs_rules.specs.Rewritten.{rewritten, IsForm}

pub each-in : {A : Type 0} (P : A → Type 0) (x : A) (xs : List A) → Each P xs → IsIn x xs → P x
each-in P x [] h k = absurd k
each-in P x (y ∷ ys) h (inl e) = rw e h.0
each-in P x (y ∷ ys) h (inr k) = each-in P x ys h.1 k

-- the first that passes, or that none does
abbrev pub Sought : {A : Type 0} → (A → Bool) → List A → Type 0
Sought {A = A} test xs =
    ((x : A) × IsIn x xs × (test x ≡ true) × (first_that test xs ≡ Some x))
    ⊎ (Each (λ x. test x ≡ false) xs × (first_that test xs ≡ None))

sought-by : {A : Type 0} (test : A → Bool) (x : A) (xs : List A) (b : Bool) → test x ≡ b → Sought test xs → Sought test (x ∷ xs)
sought-by test x xs true e k = inl (x, inl refl, e, rw e)
sought-by test x xs false e (inl k) = inl (k.0, inr k.1, k.2, rw e k.3)
sought-by test x xs false e (inr k) = inr ((e, k.0), rw e k.1)

pub sought : {A : Type 0} (test : A → Bool) (xs : List A) → Sought test xs
sought test [] = inr (tt, refl)
sought test (x ∷ xs) = sought-by test x xs (test x) refl (sought test xs)

-- what comes of the first that passes is the same in both lists
same-found : {A B : Type 0} (test : A → Bool) (of : Option A → B) (xs ys : List A) → HaveSameMembers xs ys →
    ((x y : A) → IsIn x xs → IsIn y xs → test x ≡ true → test y ≡ true → of (Some x) ≡ of (Some y)) →
    Sought test xs → Sought test ys → of (first_that test xs) ≡ of (first_that test ys)
same-found test of xs ys h clear (inl a) (inl b) =
    rw (a.3, b.3) (clear _ _ a.1 (each-in (λ y. IsIn y xs) _ ys h.1 b.1) a.2 b.2)
same-found test of xs ys h clear (inl a) (inr b) =
    cc (a.2, each-in (λ y. test y ≡ false) _ ys b.0 (each-in (λ x. IsIn x ys) _ xs h.0 a.1))
same-found test of xs ys h clear (inr a) (inl b) =
    cc (b.2, each-in (λ x. test x ≡ false) _ xs a.0 (each-in (λ y. IsIn y xs) _ ys h.1 b.1))
same-found test of xs ys h clear (inr a) (inr b) = rw (a.1, b.1)

-- for each name one other name is written, for each unit one name and factor, and each name has one kind
pub record AreClear (r : RulesParts) : Type 0 where
  pub names : (c : Class) (name : List ℕ) (a b : NameAliasParts) → IsIn a r.names → IsIn b r.names →
      is_name_alias c name a ≡ true → is_name_alias c name b ≡ true → a.name ≡ b.name
  pub units : (u : UnitParts) (a b : UnitAliasParts) → IsIn a r.units → IsIn b r.units →
      is_unit_alias u a ≡ true → is_unit_alias u b ≡ true → (a.name ≡ b.name) × (a.factor ≡ b.factor)
  pub kinds : (name : List ℕ) (a b : ParameterKindParts) → IsIn a r.kinds → IsIn b r.kinds →
      is_declared name a ≡ true → is_declared name b ≡ true → a.kind ≡ b.kind

same-meaning : (r s : RulesParts) → DifferInOrder r s → AreClear r → meaning r ≡ meaning s
same-meaning r s d h =
    let name : (c : Class) (n : List ℕ) → first_name r.names c n ≡ first_name s.names c n = λ c n.
    same-found (is_name_alias c n) (name_for n) r.names s.names d.names
    (h.names c n) (sought (is_name_alias c n) r.names) (sought (is_name_alias c n) s.names) in
    let unit : (u : UnitParts) → first_unit r.units u ≡ first_unit s.units u = λ u.
    same-found (is_unit_alias u) (unit_for u) r.units s.units d.units
    (λ a b i j p q. let k = h.units u a b i j p q in λ z. record u { name = k.0 z; factor = k.1 z })
    (sought (is_unit_alias u) r.units) (sought (is_unit_alias u) s.units) in
    let kind : (n : List ℕ) → declared_kind r.kinds n ≡ declared_kind s.kinds n = λ n.
    same-found (is_declared n) kind_or_plain r.kinds s.kinds d.kinds
    (h.kinds n) (sought (is_declared n) r.kinds) (sought (is_declared n) s.kinds) in
    λ z. record { name = λ c n. name c n z; unit = λ u. unit u z; uncounted = d.uncounted z; kind = λ n. kind n z }

pub same-form : (r s : RulesParts) → DifferInOrder r s → AreClear r → (level : Level) (text bytes : List ℕ) →
    IsForm r level text bytes → IsForm s level text bytes
same-form r s d h level text bytes f = record {
  canonical = f.canonical;
  is_canonical = f.is_canonical;
  value = f.value;
  spells = f.spells;
  axis_text = f.axis_text;
  are_axis_texts = f.are_axis_texts;
  form = subst (λ m. IsCanonicalText level (rewritten f.axis_text m f.value) bytes) (same-meaning r s d h) f.form;
}
