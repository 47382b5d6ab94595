use Rattle.crs_value.proofs.found.ArgumentLemmas.{shaped-number}
use Rattle.crs_value.proofs.reading.node.decimal_of.Goals as goal

pub unreachable-requires : goal.unreachable-requires
unreachable-requires c = c.in-None.ensures (shaped-number _ c.requires.shaped)
