use Rattle.std.proofs.Common.{rules}
use Rattle.crs_same.proofs.WalkedLemmas.{done}
use Rattle.crs_same.proofs.found.Found.frame.Goals as goal

pub returns-then-is_done : goal.returns-then-is_done
returns-then-is_done c = done (search rules)
