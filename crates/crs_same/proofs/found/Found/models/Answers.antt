use Rattle.std.proofs.Common.{rules}
use Rattle.crs_same.proofs.WalkedLemmas.{differing}
use Rattle.crs_same.proofs.found.Found.models.Goals as goal

pub returns : goal.returns
returns c = differing (search rules) (rw (← c.optional_model-first.ensures, ← c.optional_model-second.ensures) c.alone.ensures)
