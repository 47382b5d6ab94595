use Rattle.std.proofs.Common.{rules}
use Rattle.crs_same.proofs.WalkedLemmas.{differing}
use Rattle.crs_same.proofs.found.Found.unit.Goals as goal

pub returns : goal.returns
returns c = differing (search rules) (rw (← c.optional_unit-first.ensures, ← c.optional_unit-second.ensures) c.alone.ensures)
