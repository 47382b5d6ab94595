use Rattle.std.proofs.Common.{ℕ, ◌≡◌, [], ◌∷◌, refl, arith}
use Rattle.crs_text.specs.Items.{here}
use Rattle.crs_text.proofs.settled.ExampleLemmas as rows
use Rattle.crs_text.proofs.laws.worked_examples.Goals as goal

pub returns-clause-numbers : goal.returns-clause-numbers
unfolding here
returns-clause-numbers c = (refl, refl, refl, refl, refl, refl)

pub returns-clause-limit : goal.returns-clause-limit
returns-clause-limit c = ((24, (97 ∷ []), refl, refl), λ h. let e : ◌≡◌ {A = ℕ} 11 12 = h.3 in absurd (omega arith))

pub returns-clause-settled : goal.returns-clause-settled
returns-clause-settled c = (rows.name_so_far, rows.word_so_far, rows.run_so_far, rows.word_refused, rows.closing_refused, rows.character_refused)
