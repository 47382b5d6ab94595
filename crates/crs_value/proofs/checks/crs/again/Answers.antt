use Rattle.std.proofs.Common.{List, Some, sym, subst, drop}
use Rattle.crs_text.specs.inner.Prelude.{Item}
use Rattle.crs_value.specs.Checks.{AnyOf, IsLeast, IsRepeated}
use Rattle.crs_value.proofs.found.ArgumentLemmas.{found-shaped}
use Rattle.crs_value.proofs.checks.crs.again.Goals as goal

pub behind-requires-clause-shaped : goal.behind-requires-clause-shaped
behind-requires-clause-shaped c = (found-shaped _ _ _ _ (Some c.in-Some.first) c.requires.shaped (rw c.in-Some.is at c.requires.found)).1

pub returns-in-Some : goal.returns-in-Some
returns-in-Some c = subst (λ (xs : List Item). IsLeast (AnyOf IsRepeated (drop 1 xs)) c.behind.result) (sym (rw c.in-Some.is at c.requires.found).0) c.behind.ensures
