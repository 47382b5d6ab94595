use Rattle.std.proofs.Common.{rules}
use Rattle.crs_value.specs.Reads.{ReadsText}
use Rattle.crs_value.proofs.found.IdentLemmas.{code-there}
use Rattle.crs_value.proofs.found.ArgumentLemmas.{none-empty, some-there}
use Rattle.crs_value.proofs.sound.PartLemmas.{ident-tells}
use Rattle.crs_value.proofs.values.ident.IdentFromNode.read.Goals as goal

pub invariant_of-result : goal.invariant_of-result
invariant_of-result c = ident-tells _ _ _ c.requires.sound (search rules)

pub unwrap-requires : goal.unwrap-requires
unwrap-requires c =
    some-there c.single.result (λ none. code-there _ (rw c.requires.suits at c.requires.sound).shaped (none-empty ReadsText _ (rw none at c.single.ensures)))
