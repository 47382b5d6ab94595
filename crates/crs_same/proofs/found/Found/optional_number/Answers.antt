use Rattle.std.proofs.Common.{rules}
use Rattle.crs_same.proofs.WalkedLemmas.{differing}
use Rattle.crs_same.proofs.found.Found.optional_number.Goals as goal

pub returns : goal.returns
returns c = differing (search rules) (rw (← c.optional_number-first.ensures, ← c.optional_number-second.ensures) c.alone.ensures)
