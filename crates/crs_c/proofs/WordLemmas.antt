-- The words of a first part that differs are none exactly where no part differs.
use Rattle.std.proofs.Common.{◌≡◌, ◌↔◌, ◌≤◌, List, [], Option, Some, None, IfSome, length, refl, ap, arith}
use Rattle.crs_same.specs.declared.step.Step.{Step}
use Rattle.crs_same.specs.inner.Prelude.{path_text}
use Rattle.crs_c.specs.FirstPart.{words_of}

pub no-words : (found : Option (List Step)) (Same : Type 0) →
    ((path : List Step) → 1 ≤ length path → 1 ≤ length (path_text path)) →
    IfSome found (λ path. 1 ≤ length path) → ((found ≡ None) ↔ Same) → (words_of found ≡ []) ↔ Same
no-words None Same words step same = (λ e. same.0 refl, λ s. refl)
no-words (Some path) Same words step same = (
  λ e. absurd (omega (arith, words path step, ap length e)),
  λ s. let none : Some path ≡ None = same.1 s in absurd (cc),
)
