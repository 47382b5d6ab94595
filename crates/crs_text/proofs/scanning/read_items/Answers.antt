use Rattle.std.proofs.Common.{arith}
use Rattle.crs_text.proofs.tokens.ScanLemmas.{reached_first}
use Rattle.crs_text.proofs.scanning.read_items.Goals as goal

pub items_in-requires : goal.items_in-requires
items_in-requires c = reached_first c.args.text.now c.after_white.result (omega (arith, c.after_white.ensures)) c.new.result c.new.ensures
