use Rattle.crs_value.proofs.found.ArgumentLemmas.{some-there}
use Rattle.crs_value.proofs.sound.KnownWordLemmas.{known-type}
use Rattle.crs_value.proofs.values.system.system_type.Goals as goal

pub unwrap-requires : goal.unwrap-requires
unwrap-requires c =
    some-there c.read.result (λ none. known-type _ _ _ c.requires.sound c.required-word.ensures.found.0 (rw c.raw.ensures at (rw none at c.read.ensures)))
