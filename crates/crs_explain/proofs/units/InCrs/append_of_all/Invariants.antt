use Rattle.crs_text.specs.inner.Prelude.{count}
use Rattle.crs_value.specs.inner.Prelude.{Holds, ahead}
use Rattle.crs_explain.proofs.units.InCrs.append_of_all.Given as goal

abbrev pub invariant-loop-at : goal.invariant-loop-at
invariant-loop-at l = Holds l.self.items.now l.at

abbrev pub decreases-loop-at : goal.decreases-loop-at
decreases-loop-at l = count (ahead l.self.items.now l.at)
