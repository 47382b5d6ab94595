use Rattle.crs_c.proofs.ComparisonLemmas.{first-read}
use Rattle.crs_c.proofs.calls.comparison.made_of_both.Goals as goal

pub returns-in-Ok : goal.returns-in-Ok
returns-in-Ok g c =
    first-read (g.C.Comparing.Like c.args.by) c.args.first.now c.args.second.now c.in-Ok.crs c.made_behind.result
    c.args.refused.now c.made_behind.new.refused (rw c.in-Ok.is at c.read.ensures) c.made_behind.ensures
