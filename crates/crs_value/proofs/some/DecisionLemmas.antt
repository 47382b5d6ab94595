-- Decisions: a fact or its refutation; a value that is read, or none.
use Rattle.std.proofs.Common.{◌≡◌, ℕ, zero, suc, ◌+◌, ◌*◌, ◌^◌, ◌⊎◌, inl, inr, Bool, true, false, if◌then◌else◌, Option, Some, None, List, [], ◌∷◌, find, refl, sym, ap, ◌∙◌, subst, arith, rules, Decides, ⊎_elim}
use Rattle.std.specs.Str.{str_to_ascii_lowercase}
use Rattle.std.proofs.lemmas.Bool.{cases_eq}
use Rattle.std.proofs.lemmas.Slice.Eq.{bytes_eq-Decides}
use Rattle.std.proofs.lemmas.Bool.Decides.{Decides-int_eq}
use Rattle.std.specs.Bool.{beq}
use Rattle.std.specs.Cmp.{booleans_Decides}
use denote.Enum.Bare.{sameb, same_true, true_same}
use Rattle.crs_decimal.specs.inner.Prelude.{Number, SameNumber, whole_number, Value, exact}
use Rattle.crs_shape.specs.declared.system_type.SystemType.{SystemType}
use Rattle.crs_shape.specs.declared.system_type.SystemType.TheVariants as types
use Rattle.crs_shape.specs.contracts.unit_kind.UnitKind.{the_type}
use Rattle.crs_shape.specs.declared.unit_kind.UnitKind.{UnitKind}
use Rattle.crs_shape.specs.declared.unit_kind.UnitKind.TheVariants as kinds
use Rattle.crs_shape.specs.inner.Prelude.{IsOneOf, SpellsWord, direction_word, every_direction, every_type, system_word}
use Rattle.crs_value.specs.Checks.{IsAboveZero, IsPosition}
use Rattle.crs_value.specs.Reading.{OneIs}
use Rattle.crs_value.specs.Sound.{Each, Suits}
use Rattle.crs_value.proofs.one.WordLemmas.{IsSpelled, direction-spelled, spelled, type-spelled}

abbrev pub Decided : Type 0 → Type 0
Decided C = C ⊎ (¬ C)

abbrev pub Known : {V : Type 0} → (V → Type 0) → Type 0
Known {V = V} R = ((value : V) × R value) ⊎ ((value : V) → ¬ (R value))

pub decided-as : {A B : Type 0} → (A → B) → (B → A) → Decided A → Decided B
decided-as to back (inl a) = inl (to a)
decided-as to back (inr fails) = inr (λ b. fails (back b))

pub decided-both : {A B : Type 0} → Decided A → Decided B → Decided (A × B)
decided-both (inl a) (inl b) = inl (a, b)
decided-both (inl a) (inr fails) = inr (λ h. fails h.1)
decided-both (inr fails) b = inr (λ h. fails h.0)

pub decided-either : {A B : Type 0} → Decided A → Decided B → Decided (A ⊎ B)
decided-either (inl a) b = inl (inl a)
decided-either (inr fails) (inl b) = inl (inr b)
decided-either (inr fails) (inr lacks) = inr (⊎_elim fails lacks)

pub decided-not : {A : Type 0} → Decided A → Decided (¬ A)
decided-not (inl a) = inr (λ f. f a)
decided-not (inr fails) = inl fails

-- what isn't false is true
pub stable : {A : Type 0} → Decided A → ¬ (¬ A) → A
stable (inl a) twice = a
stable (inr fails) twice = absurd (twice fails)

-- what a test decides
pub decided-by : {A : Type 0} (b : Bool) → Decides b A → Decided A
decided-by true test = inl (test.0 refl)
decided-by false test = inr (λ a. let e = test.1 a in cc)

-- a condition on the one value that is read
pub decided-some : {V : Type 0} (R C : V → Type 0) → ((a b : V) → R a → R b → a ≡ b) → Known R → ((v : V) → R v → Decided (C v)) → Decided ((v : V) × (R v × C v))
decided-some R C one (inr none) dec = inr (λ h. none h.0 h.1.0)
decided-some R C one (inl found) dec =
    decided-as (λ c. (found.0, (found.1, c))) (λ h. subst C (one h.0 found.0 h.1.0 found.1) h.1.1) (dec found.0 found.1)

-- whether this is the one value that is read
pub decided-this : {V : Type 0} (R : V → Type 0) (value : V) → ((a b : V) → R a → R b → a ≡ b) → Known R → ((v : V) → Decided (v ≡ value)) → Decided (R value)
decided-this R value one (inr none) dec = inr (λ h. none value h)
decided-this R value one (inl found) dec = decided-as (λ e. subst R e found.1) (λ h. one found.0 value found.1 h) (dec found.0)

-- ---- words

pub decided-word : (raw name : List ℕ) → Decided (SpellsWord raw name)
decided-word raw name = decided-by _ (bytes_eq-Decides (str_to_ascii_lowercase raw) (str_to_ascii_lowercase name))

found-passes : {V : Type 0} (test : V → Bool) (vs : List V) (v : V) → find test vs ≡ Some v → test v ≡ true
found-passes test [] v e = cc
found-passes test (w ∷ vs) v e = by (test w) refl e (found-passes test vs v)
  where
    by : (b : Bool) → test w ≡ b → (if b then Some w else find test vs) ≡ Some v → (find test vs ≡ Some v → test v ≡ true) → test v ≡ true
    by true is e more = let h : Some w ≡ Some v = e in cc
    by false is e more = more e

-- what a word spells, among those of which each is what its own word spells
word-known : {V : Type 0} (word : V → List ℕ) (vs : List V) → ((v : V) → IsSpelled word vs v) → (raw : List ℕ) → Known (λ v. SpellsWord raw (word v))
word-known {V = V} word vs own raw = by (spelled word vs (str_to_ascii_lowercase raw)) refl
  where
    by : (o : Option V) → spelled word vs (str_to_ascii_lowercase raw) ≡ o → Known (λ v. SpellsWord raw (word v))
    by None e = inr (λ v p. let h : Some v ≡ None = sym (own v) ∙ ap (spelled word vs) (sym p) ∙ e in cc)
    by (Some v) e = inl (v, sym ((bytes_eq-Decides (str_to_ascii_lowercase (word v)) (str_to_ascii_lowercase raw)).0 (found-passes _ vs v e)))

pub type-known : (raw : List ℕ) → Known (λ t. SpellsWord raw (system_word t))
type-known = word-known system_word every_type type-spelled

pub direction-known : (raw : List ℕ) → Known (λ d. SpellsWord raw (direction_word d))
direction-known = word-known direction_word every_direction direction-spelled

pub decided-kinds : (P : UnitKind → Type 0) → ((k : UnitKind) → Decided (P k)) → Decided ((k : UnitKind) × P k)
decided-kinds P dec =
    decided-as (⊎_elim (λ h. (kinds.Length, h)) (⊎_elim (λ h. (kinds.Angle, h)) (⊎_elim (λ h. (kinds.Scale, h)) (λ h. (kinds.Plain, h))))) (λ h. at h.0 h.1)
    (decided-either (dec kinds.Length) (decided-either (dec kinds.Angle) (decided-either (dec kinds.Scale) (dec kinds.Plain))))
  where
    at : (k : UnitKind) → P k → P kinds.Length ⊎ (P kinds.Angle ⊎ (P kinds.Scale ⊎ P kinds.Plain))
    at kinds.Length h = inl h
    at kinds.Angle h = inr (inl h)
    at kinds.Scale h = inr (inr (inl h))
    at kinds.Plain h = inr (inr (inr h))

pub decided-kind : (a b : UnitKind) → Decided (a ≡ b)
decided-kind a b = decided-by (sameb the_type a b) (same_true the_type (search rules) a b, true_same the_type a b)

pub decided-suits : (asked kind : UnitKind) → Decided (Suits asked kind)
decided-suits asked kind = decided-either (decided-kind kind asked) (decided-kind kind kinds.Plain)

pub whether-ellipsoidal : (t : SystemType) → Decided (t ≡ types.Ellipsoidal)
whether-ellipsoidal types.Ellipsoidal = inl refl
whether-ellipsoidal other = inr (λ e. cc)

-- ---- lists

pub decided-none : {V : Type 0} (vs : List V) → Decided (vs ≡ [])
decided-none [] = inl refl
decided-none (v ∷ vs) = inr (λ e. cc)

pub decided-each : {V : Type 0} (P : V → Type 0) → ((v : V) → Decided (P v)) → (vs : List V) → Decided (Each P vs)
decided-each P dec [] = inl tt
decided-each P dec (v ∷ vs) = decided-both (dec v) (decided-each P dec vs)

-- ---- numbers

pub decided-bool : (a b : Bool) → Decided (a ≡ b)
decided-bool a b = decided-by (beq a b) (booleans_Decides a b)

pub decided-same : (a b : Number) → Decided (SameNumber a b)
decided-same a b =
    decided-both (cases_eq (a.digits * 10 ^ (a.up + b.down)) (b.digits * 10 ^ (b.up + a.down)))
    (decided-either (decided-bool a.negative b.negative) (decided-both (cases_eq a.digits 0) (cases_eq b.digits 0)))

pub decided-value : (a b : Value) → Decided (a ≡ b)
decided-value a b =
    decided-as (λ h. λ i. record { negative = h.0 i; digits = h.1.0 i; power = h.1.1 i })
    (λ e. (ap (λ v. v.negative) e, (ap (λ v. v.digits) e, ap (λ v. v.power) e)))
    (decided-both (decided-bool a.negative b.negative) (decided-both (cases_eq a.digits b.digits) (decided-by _ (Decides-int_eq a.power b.power))))

pub decided-one : {V : Type 0} (P : V → Type 0) → ((v : V) → Decided (P v)) → (vs : List V) → Decided (OneIs P vs)
decided-one P dec [] = inr (λ h. h)
decided-one P dec (v ∷ vs) = decided-either (dec v) (decided-one P dec vs)

pub decided-one-of : (value : Value) (ns : List ℕ) → Decided (IsOneOf value ns)
decided-one-of value ns = decided-one (λ n. SameNumber (exact value) (whole_number n)) (λ n. decided-same (exact value) (whole_number n)) ns

position-more : (n : ℕ) (value : Value) → IsPosition n value ⊎ SameNumber (exact value) (whole_number (suc n)) → IsPosition (suc n) value
position-more n value (inl h) = (h.0, (h.1.0, omega (arith, h.1.1), h.1.2))
position-more n value (inr h) = (suc n, (omega arith, omega arith, h))

position-less : (n : ℕ) (value : Value) → IsPosition (suc n) value → IsPosition n value ⊎ SameNumber (exact value) (whole_number (suc n))
position-less n value h =
    ⊎_elim (λ e. let P : ℕ → Type 0 = λ k. SameNumber (exact value) (whole_number k) in inr (subst P e h.1.2))
    (λ fails. inl (h.0, (h.1.0, omega (arith, fails, h.1.1), h.1.2))) (cases_eq h.0 (suc n))

pub decided-position : (n : ℕ) (value : Value) → Decided (IsPosition n value)
decided-position zero value = inr (λ h. absurd (omega (arith, h.1.0, h.1.1)))
decided-position (suc n) value =
    decided-as (position-more n value) (position-less n value) (decided-either (decided-position n value) (decided-same (exact value) (whole_number (suc n))))

pub decided-above : (value : Value) → Decided (IsAboveZero value)
decided-above value = decided-both (decided-bool value.negative false) (decided-not (cases_eq value.digits 0))
