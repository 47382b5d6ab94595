use Rattle.crs_explain.proofs.ArgumentLemmas.{fewer}
use Rattle.crs_explain.proofs.units.InCrs.append_of_all.Goals as goal

pub loop-at-smaller : goal.loop-at-smaller
loop-at-smaller c =
    fewer c.args.self.now.items.now c.loop-at.at c.next-at.result c.in-Some.argument c.in-Some.is c.loop-at.invariant c.next-at.ensures
