-- What nodes say: there is nothing else, and a name is a text.
use Rattle.std.proofs.Common.{arith, ◌≡◌, ◌≢◌, ◌⊎◌, Option, Some, None, IsTrue, false, subst, ◌∙◌}
use Rattle.crs_decimal.specs.inner.Prelude.{Value}
use Rattle.crs_text.specs.inner.Prelude.{Item, Siblings, End, More, IsNumberOf, first_of, kind_of_item, raw_of, rest_of, AreFormed}
use Rattle.crs_text.specs.declared.items.ItemKind.{ItemKind}
use Rattle.crs_text.specs.declared.items.ItemKind.TheVariants as kinds
use Rattle.crs_shape.specs.declared.class.Class.{Class}
use Rattle.crs_shape.specs.declared.unit_kind.UnitKind.{UnitKind}
use Rattle.crs_value.specs.inner.Prelude.{IsAboveZero, IsText}
use Rattle.crs_rules.specs.Members.{MemberParts, SaysFactor, SaysName, kind_of}
use Rattle.crs_rules.specs.inner.Named.{IsFactor, SaysNamed}
use Rattle.crs_rules.proofs.OneLemmas.{DenotesOne}

-- a number that isn't above zero is no factor
pub no-factor : DenotesOne → (k : UnitKind) (items : Siblings) (v : Value) → IsNumberOf (first_of items) (Some v)
    → ¬ (IsAboveZero v) → (f : Value) → ¬ (SaysFactor (Some k) items f)
no-factor law k End v is low f s = s
no-factor law k (More item items) v is low f s =
    low (subst IsAboveZero (law (raw_of item) f v s.1.1 is.1 s.1.2 is.2) s.2)

-- where no factor follows, nothing is said
pub no-name : (c : Class) (items : Siblings) → ((f : Value) → ¬ (SaysFactor (kind_of c) (rest_of items) f))
    → (m : MemberParts) → ¬ (SaysNamed c items m)
no-name c End none m s = s.1
no-name c (More item items) none m s =
    none m.factor (subst (λ d. SaysFactor (kind_of d) items m.factor) s.0 s.1.2)

-- no other item is a name
pub no-text : (items : Siblings) (k : ItemKind) → k ≡ kind_of_item (first_of items) → k ≢ kinds.Text
    → (m : MemberParts) → ¬ (SaysName items m)
no-text End k e other m s = s
no-text (More item items) k e other m s = other (e ∙ s.0)

pub not-text : (k : ItemKind) → ((k ≡ kinds.Number) ⊎ ((k ≡ kinds.Word) ⊎ (k ≡ kinds.Node))) → k ≢ kinds.Text
not-text k h e = grind arith

-- what is said after a name is a factor, in a unit
pub is-factor : (o : Option UnitKind) (items : Siblings) (f : Value) → SaysFactor o items f → IsFactor o f
is-factor None items f s = tt
is-factor (Some k) End f s = absurd s
is-factor (Some k) (More item items) f s = s.2

pub false-true : IsTrue false → ⊥
false-true h = cc

-- a well-formed text is a text
pub is-text : (item : Item) → AreFormed item → kind_of_item item ≡ kinds.Text → IsText (raw_of item)
is-text item formed e = grind arith
