use Rattle.crs_text.proofs.rows.OneItemLemmas.{item-cancel, one_node}
use Rattle.crs_text.proofs.laws.one_item.Goals as goal

pub returns-clause-node : goal.returns-clause-node
returns-clause-node c = λ ts i j. one_node i j ts

pub returns-clause-front : goal.returns-clause-front
returns-clause-front c = item-cancel
