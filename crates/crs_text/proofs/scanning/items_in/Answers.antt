use Rattle.std.proofs.Common.{subst, sym}
use Rattle.crs_text.specs.TextFault.{SpellsNode}
use Rattle.crs_text.proofs.rows.StandLemmas.{table_of_scanned}
use Rattle.crs_text.proofs.scanning.items_in.Goals as goal

pub from_table-requires : goal.from_table-requires
from_table-requires c = let s = c.in_ok-scan_from.ensures in (s.0, table_of_scanned c.args.text.now _ s)

pub returns : goal.returns
returns c =
    let s = c.in_ok-scan_from.ensures in
    subst (SpellsNode c.args.text.now) (sym (c.from_table.ensures s.0 (table_of_scanned c.args.text.now _ s))) s.1
