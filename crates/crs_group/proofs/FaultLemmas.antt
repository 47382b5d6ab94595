-- A fault that is handed on.
use Rattle.std.proofs.Common.{◌≡◌, Result, IfErr}
use Rattle.std.proofs.lemmas.Result.{IfErr-weaker}

-- what holds of a fault holds of the error by which it is handed on
pub handed-on : {A E : Type 0} (answer : Result A E) (fault : E) (P : E → Type 0) → IfErr answer (λ error. error ≡ fault) → P fault
    → IfErr answer P
handed-on answer fault P same holds = IfErr-weaker answer _ P (λ error is. rw is holds) same
