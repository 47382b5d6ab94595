use Rattle.std.proofs.Common.{arith}
use Rattle.crs_text.specs.inner.Table.{no_row}
use Rattle.crs_text.proofs.rows.IdLemmas.{row-end, row-beside}
use Rattle.crs_text.proofs.items.Items.next.Goals as goal

pub returns-then-at-len : goal.returns-then-at-len
returns-then-at-len c = row-end c.args.self.now c.args.id c.row-row.result c.requires c.row-row.ensures.is (omega (arith, c.id.view_is))

pub returns-then-row : goal.returns-then-row
returns-then-row c =
    (row-beside c.args.self.now c.args.id c.row-row.result c.requires c.row-row.ensures.is no_row c.row.result c.row-row.ensures.value (omega (arith, c.id.view_is))
    (rw (← c.id.view_is) c.row.ensures.value)).1 c.if-row.true

pub returns : goal.returns
returns c =
    rw c.id.view_is
    ((row-beside c.args.self.now c.args.id c.row-row.result c.requires c.row-row.ensures.is no_row c.row.result c.row-row.ensures.value (omega (arith, c.id.view_is))
    (rw (← c.id.view_is) c.row.ensures.value)).0 c.if-row.false)
