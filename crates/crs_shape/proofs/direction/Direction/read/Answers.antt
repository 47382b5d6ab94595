use Rattle.std.proofs.Common.{◌<◌, sym, ap, ◌∙◌, arith}
use Rattle.std.specs.Str.{str_to_ascii_lowercase}
use Rattle.crs_shape.specs.Words.{direction_word, every_direction}
use Rattle.crs_shape.proofs.words.WordLemmas.{direction_place, direction_placed, direction_within}
use Rattle.crs_shape.proofs.direction.Direction.read.Goals as goal

pub returns : goal.returns
unfolding every_direction
returns c = λ d spells.
    let within = direction_within d in
    let less : direction_place d < c.loop-direction.direction-index = omega arith in
    c.loop-direction.invariant (direction_place d) d less (ap (λ x. str_to_ascii_lowercase (direction_word x)) (direction_placed d) ∙ sym spells)
