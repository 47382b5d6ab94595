-- Bytes that are copied.
use Rattle.std.proofs.Common.{◌≡◌, ℕ, List, ◌∷◌, ◌++◌, OnOk, Result, ap, ◌∙◌}
use Rattle.std.proofs.lemmas.Result.{on_ok_weaker}
use Rattle.crs_writer.specs.inner.FromItems.{Writes}

-- a copy, if it is the text of all that is read
pub copy-writes : {T E V : Type 0} (r : Result T E) (Reads : V → Type 0) (spell : V → List ℕ) (bytes old new : List ℕ) →
    ((value : V) → Reads value → bytes ≡ spell value) → OnOk r (new ≡ old ++ bytes) → OnOk r (Writes Reads spell old new)
copy-writes r Reads spell bytes old new same h =
    on_ok_weaker r (λ e. record { writes = λ value v. e ∙ ap (λ (x : List ℕ). old ++ x) (same value v) }) h

-- the same behind a comma
pub part-writes : {T E V : Type 0} (r : Result T E) (Reads : V → Type 0) (spell : V → List ℕ) (bytes old new : List ℕ) →
    ((value : V) → Reads value → bytes ≡ spell value) → OnOk r (new ≡ old ++ 44 ∷ bytes) → OnOk r (Writes Reads (λ v. 44 ∷ spell v) old new)
part-writes r Reads spell bytes old new same h =
    copy-writes r Reads (λ v. 44 ∷ spell v) (44 ∷ bytes) old new (λ value v. ap (λ (x : List ℕ). 44 ∷ x) (same value v)) h
