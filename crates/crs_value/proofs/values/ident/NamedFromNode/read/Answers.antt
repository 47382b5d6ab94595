use Rattle.std.proofs.Common.{rules}
use Rattle.crs_value.proofs.sound.PartLemmas.{named-tells}
use Rattle.crs_value.proofs.values.ident.NamedFromNode.read.Goals as goal

pub invariant_of-result : goal.invariant_of-result
invariant_of-result g c = named-tells _ _ _ c.requires.sound (search rules)
