-- Numbers, and parts that may be missing, have one form exactly where they are the same.
use Rattle.std.proofs.Common.{◌≡◌, ◌↔◌, Option, Some, None, IfSome, arith}
use Rattle.crs_decimal.specs.inner.Prelude.{SameNumber, Value, IsNormal, exact}
use Rattle.crs_same.specs.inner.Prelude.{SameValue, BothOrNeither}
use Rattle.crs_normal.specs.inner.Decides.{FormDecides}

-- a part that may be missing, with what is asked of it where it is there
abbrev pub Maybe : {A : Type 0} → (A → Type 0) → Option A → Type 0
Maybe Is value = IfSome value Is

-- numbers decide which normal values are equal
abbrev pub NumbersDecide : Type 0
NumbersDecide = (a b : Value) → IsNormal a → IsNormal b → SameNumber (exact a) (exact b) ↔ (a ≡ b)

pub values-agree : NumbersDecide → FormDecides IsNormal (λ value. value) SameValue
unfolding SameValue
values-agree numbers a b in-a in-b = ((numbers a b in-a in-b).1, (numbers a b in-a in-b).0)

-- a part that may be missing, where the form of one that is there decides
pub options-agree : {A : Type 0} (Is : A → Type 0) (form : A → A) (Same : A → A → Type 0) → FormDecides Is form Same →
    (all : Option A → Option A) → all None ≡ None → ((x : A) → all (Some x) ≡ Some (form x)) →
    FormDecides (Maybe Is) all (BothOrNeither Same)
options-agree Is form Same agree all none some a b in-a in-b = grind (arith, agree, none, some, in-a, in-b)

-- where all parts are the same exactly where the values agree: a form that decides the latter decides the former
pub decides-parts : {A B : Type 0} {Is : A → Type 0} {form : A → B} {S R : A → A → Type 0} →
    ((a b : A) → Is a → Is b → S a b ↔ R a b) → FormDecides Is form R → FormDecides Is form S
decides-parts is decides a b in-a in-b = grind (arith, is a b in-a in-b, decides a b in-a in-b)
