use Rattle.crs_same.proofs.WalkedLemmas.{more-axes}
use Rattle.crs_same.proofs.found.Found.axes.Goals as goal

pub loop-index-preserved : goal.loop-index-preserved
loop-index-preserved c =
    more-axes c.args.at.path c.args.at.level c.args.a.now c.args.b.now c.loop-index.index c.loop-index.invariant
    (rw (← c.then.ensures.path, ← c.then.ensures.level) c.axis_at-found.ensures)
