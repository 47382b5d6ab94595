-- A bridge: a step is written as its word, and then its digits.
use Rattle.std.specs.Prelude.{List, [], ℕ, decimal}
use Rattle.crs_same.specs.declared.step.Step.{Step}
use Rattle.crs_same.specs.declared.step.Step.TheVariants as step

-- the digits after the word of a step
abbrev pub step_digits : Step → List ℕ
step_digits (step.Axis position) = decimal position
step_digits other = []
