use Rattle.crs_rules.proofs.FormOrderLemmas.{put-sound}
use Rattle.crs_rules.proofs.rewriting.order.put.Goals as goal

pub invariant_of-system : goal.invariant_of-system
invariant_of-system c =
    let (text, are) = rw (← c.system.view_is) at c.requires in
    simp (c.change_each.ensures, c.sort.ensures text are) (put-sound text _ c.system.invariant)
