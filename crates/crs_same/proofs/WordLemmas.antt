-- A path with a step writes a word.
use Rattle.std.proofs.Common.{◌≤◌, List, [], ◌∷◌, length, length-append, arith}
use Rattle.crs_same.specs.declared.step.Step.{Step}
use Rattle.crs_same.specs.declared.step.Step.TheVariants as step
use Rattle.crs_same.specs.Paths.{step_text, further_text, path_text}

word : (s : Step) → 1 ≤ length (step_text s)
word step.Kind = omega arith
word other = omega arith

pub path-has-words : (path : List Step) → 1 ≤ length path → 1 ≤ length (path_text path)
path-has-words [] some = absurd (omega (arith, some))
path-has-words (s ∷ steps) some = omega (arith, word s, length-append (step_text s) (further_text steps))
