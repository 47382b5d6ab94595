use Rattle.crs_shape.proofs.walks.SlotLemmas.{allowed-least, allowed-most}
use Rattle.crs_shape.proofs.laws.slots_count.Goals as goal

pub returns-clause-least : goal.returns-clause-least
returns-clause-least c = allowed-least

pub returns-clause-most : goal.returns-clause-most
returns-clause-most c = allowed-most
