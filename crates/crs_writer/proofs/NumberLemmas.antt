-- Numbers, as bytes spell them.
use Rattle.std.proofs.Common.{◌≡◌, ℕ, List, ◌++◌, ◌∙◌, Result, Ok, Err, OnOk, MatchResult, Some, sym, ap, subst}
use Rattle.crs_decimal.specs.inner.Prelude.{AppendsPlain, Denotes, IsFault, IsPlain, Value, IsNormal, exact, plain}
use Rattle.crs_decimal.specs.declared.fault.NumberFault.{NumberFault}
use Rattle.crs_decimal.specs.declared.fault.NumberFault.TheVariants as faults

-- bytes that are no number denote none
no-number : (bytes : List ℕ) (fault : NumberFault) (value : Value) → IsFault bytes fault → Denotes bytes (exact value) → ⊥
no-number bytes faults.Malformed value fault (parts, spells, bounded, same) = fault (parts, spells)
no-number bytes faults.Range value fault (parts, spells, bounded, same) = fault.1 (parts, spells, bounded)

abbrev pub DenotesOne : Type 0
DenotesOne = (bytes : List ℕ) (a b : Value) → IsNormal a → IsNormal b → Denotes bytes (exact a) → Denotes bytes (exact b) → a ≡ b

pub number-read : DenotesOne → (bytes raw : List ℕ) (a b : Value) → bytes ≡ raw → IsNormal a × Denotes bytes (exact a) →
    IsNormal b × Denotes raw (exact b) → Some a ≡ Some b
number-read one bytes raw a b same p q =
    ap Some (one bytes a b p.0 q.0 p.1 (subst (λ x. Denotes x (exact b)) (sym same) q.1))

pub number-refused : (bytes raw : List ℕ) (fault : NumberFault) (b : Value) → bytes ≡ raw → IsFault bytes fault →
    IsNormal b × Denotes raw (exact b) → ⊥
number-refused bytes raw fault b same is q =
    no-number bytes fault b is (subst (λ x. Denotes x (exact b)) (sym same) q.1)

abbrev pub PlainIsOne : Type 0
PlainIsOne = (v : Value) (bytes : List ℕ) → IsNormal v → IsPlain bytes → Denotes bytes (exact v) → bytes ≡ plain v

-- a number that is appended in a plain spelling is appended in the one that there is
pub one-appended : {T E : Type 0} → PlainIsOne → (v : Value) → IsNormal v → (before after : List ℕ) (r : Result T E) →
    MatchResult r (λ _. AppendsPlain v before after) (λ _. after ≡ before) → OnOk r (after ≡ before ++ plain v)
one-appended one v normal before after (Ok x) a =
    a.appended ∙ ap (λ s. before ++ s) (one v a.spelling normal a.is_plain a.denotes)
one-appended one v normal before after (Err e) a = tt
