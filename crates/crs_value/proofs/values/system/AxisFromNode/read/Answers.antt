use Rattle.std.proofs.Common.{rules}
use Rattle.crs_value.proofs.found.ArgumentLemmas.{some-there}
use Rattle.crs_value.proofs.sound.AxisLemmas.{axis-tells}
use Rattle.crs_value.proofs.sound.KnownWordLemmas.{known-direction}
use Rattle.crs_value.proofs.values.system.AxisFromNode.read.Goals as goal

pub unwrap-requires : goal.unwrap-requires
unwrap-requires c =
    some-there c.read.result (λ none. known-direction _ _ _ (rw c.requires.suits at c.requires.sound) c.required-word.ensures.found.0 (rw c.raw.ensures at (rw none at c.read.ensures)))

pub invariant_of-result : goal.invariant_of-result
invariant_of-result c = axis-tells _ _ _ c.requires.sound (search rules)
