use Rattle.crs_text.proofs.rows.IdLemmas.{row-first}
use Rattle.crs_text.proofs.items.Items.first_arg.Goals as goal

pub returns : goal.returns
returns c = rw c.id.view_is (row-first c.args.self.now c.args.id c.row.result c.requires c.row.ensures.is c.if-row-eq0.false)
