use Rattle.std.proofs.Common.{subst, sym}
use Rattle.crs_normal.specs.Closed.{IsClosed}
use Rattle.crs_normal.proofs.texts.ClosedLemmas.{node-closed}
use Rattle.crs_normal.proofs.laws.texts.normal_text_is_closed_node.Goals as goal

pub returns-clause-closed : goal.returns-clause-closed
returns-clause-closed c level bytes n =
    subst IsClosed (sym n.written)
    (node-closed n.item (c.written_items.ensures.formed bytes n.item n.spells) n.spells.2.is_node)
