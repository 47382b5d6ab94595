-- Whether two factors are the same number is whether they have one plain spelling.
use Rattle.std.proofs.Common.{◌≡◌, ◌↔◌, ◌<◌, ◌≤◌, ℕ, Bool, IsTrue, List, None, codes, inl, length, refl, rules, subst, ap, arith}
use Rattle.std.specs.Str.{bytes_eq}
use Rattle.std.proofs.lemmas.Bool.Decides.{same_from_decides}
use Rattle.std.proofs.lemmas.Slice.Eq.{bytes_eq-Decides}
use Rattle.crs_decimal.specs.inner.Prelude.{AreDigits, Denotes, HasForm, IsFault, IsInBounds, IsNormal, SameNumber, Value, exact, plain, unsigned}
use Rattle.crs_decimal.specs.declared.fault.NumberFault.{NumberFault}
use Rattle.crs_decimal.specs.declared.fault.NumberFault.TheVariants as faults
use Rattle.crs_same.specs.SameParts.{one}

-- values that have one plain spelling are one
pub one-plain :
    ((bytes : List ℕ) (a b : Value) → IsNormal a → IsNormal b → Denotes bytes (exact a) → Denotes bytes (exact b) → a ≡ b) →
    ((v : Value) → IsNormal v → Denotes (plain v) (exact v)) →
    (a b : Value) → IsNormal a → IsNormal b → plain a ≡ plain b → a ≡ b
one-plain one denotes a b in-a in-b e =
    one (plain b) a b in-a in-b (subst (λ bytes. Denotes bytes (exact a)) e (denotes a in-a)) (denotes b in-b)

pub factor-tested :
    ((bytes : List ℕ) (a b : Value) → IsNormal a → IsNormal b → Denotes bytes (exact a) → Denotes bytes (exact b) → a ≡ b) →
    ((a b : Value) → IsNormal a → IsNormal b → SameNumber (exact a) (exact b) ↔ (a ≡ b)) →
    ((v : Value) → IsNormal v → Denotes (plain v) (exact v)) →
    (a b : Value) (r : Bool) → IsNormal a → IsNormal b → (IsTrue r ↔ SameNumber (exact a) (exact b)) →
    r ≡ bytes_eq (plain a) (plain b)
factor-tested one normal denotes a b r in-a in-b told = same_from_decides r (bytes_eq (plain a) (plain b)) told (
  λ e. (normal a b in-a in-b).1 (one-plain one denotes a b in-a in-b ((bytes_eq-Decides (plain a) (plain b)).0 e)),
  λ s. (bytes_eq-Decides (plain a) (plain b)).1 (ap plain ((normal a b in-a in-b).0 s)),
)

-- 1 is read
one-has-form : HasForm (codes "1")
one-has-form = (
  record { sign = unsigned; whole = codes "1"; fraction = None; exponent = None },
  (refl, record { digits = search rules; some = search arith; exponent = tt }),
)

pub one-is-read : ((bytes : List ℕ) → AreDigits bytes → 0 < length bytes → length bytes ≤ 18 → IsInBounds bytes) →
    (fault : NumberFault) → IsFault (codes "1") fault → ⊥
one-is-read alone faults.Malformed f = f one-has-form
one-is-read alone faults.Range f = f.1 (alone (codes "1") (search rules) (search arith) (search arith))

one-denotes : Denotes (codes "1") (exact one)
unfolding one-has-form
one-denotes = (one-has-form.0, one-has-form.1, search (rules, arith), (refl, inl refl))

pub one-is : ((bytes : List ℕ) (a b : Value) → IsNormal a → IsNormal b → Denotes bytes (exact a) → Denotes bytes (exact b) → a ≡ b) →
    (d : Value) → IsNormal d → Denotes (codes "1") (exact d) → d ≡ one
one-is denotes d n k = denotes (codes "1") d one n (search rules) k one-denotes
