use Rattle.crs_same.specs.inner.SamenessLaws.{equal-by, ◌⊗◌, in-words}
use Rattle.crs_same.proofs.laws.parts.same_ident_is_equivalence.Goals as goal

pub returns : goal.returns
returns c =
    in-words
    (equal-by (λ a. a.authority) ⊗ equal-by (λ a. a.code) ⊗ equal-by (λ a. a.version) ⊗ equal-by (λ a. a.citation)
    ⊗ equal-by (λ a. a.uri)) (assumption) (assumption)
