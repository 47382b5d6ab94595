use Rattle.std.proofs.Common.{rules}
use Rattle.crs_value.proofs.found.ArgumentLemmas.{some-there}
use Rattle.crs_value.proofs.sound.KnownWordLemmas.{known-kind}
use Rattle.crs_value.proofs.sound.PartLemmas.{unit-tells}
use Rattle.crs_value.proofs.values.system.UnitFromNode.read.Goals as goal

pub unwrap-requires : goal.unwrap-requires
unwrap-requires c =
    some-there c.read.result (λ none. known-kind _ _ c.requires.suits.0 c.requires.sound.shaped (rw c.raw.ensures at (rw none at c.read.ensures)))

pub invariant_of-result : goal.invariant_of-result
invariant_of-result c = unit-tells _ c.requires.suits.0 _ _ c.requires.sound (search rules)
