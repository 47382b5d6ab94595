use Rattle.std.proofs.Common.{◌≡◌, ℕ, ◌<◌, get_or}
use Rattle.std.specs.Str.{str_to_ascii_lowercase}
use Rattle.crs_shape.specs.Words.{direction_word}
use Rattle.crs_shape.specs.declared.direction.Direction.{Direction}
use Rattle.crs_shape.proofs.direction.Direction.read.Given as goal

abbrev pub invariant-loop-direction : goal.invariant-loop-direction
invariant-loop-direction l =
    (k : ℕ) (d : Direction) → k < l.direction-index → str_to_ascii_lowercase (direction_word (get_or l.direction-items k d)) ≡ str_to_ascii_lowercase l.word → ⊥
