use Rattle.crs_text.proofs.rows.TreeLemmas.{tree_of-rows, table_of_tree}
use Rattle.crs_text.proofs.items.Items.from_table.Goals as goal

pub invariant_of-result : goal.invariant_of-result
invariant_of-result c = rw c.into_rows.ensures (table_of_tree _ _ c.requires.0 c.requires.1)

pub returns : goal.returns
returns c = λ item h. rw c.into_rows.ensures (tree_of-rows _ _ item h)
