use Rattle.std.proofs.Common.{ap, ◌∙◌, arith}
use Rattle.crs_text.specs.inner.Table.{rows}
use Rattle.crs_text.proofs.rows.IdLemmas.{within_table}
use Rattle.crs_text.proofs.items.Items.row.Goals as goal

pub returns-clause-within : goal.returns-clause-within
returns-clause-within c =
    let w = within_table c.args.self.now c.args.id c.self.inside.rows.items c.index.result.now (c.self.invariant.rows ∙ ap (λ t. rows 0 t) c.self.view_is) c.requires (cc) in
    let small = c.self.inside.rows.small in
    omega arith
