use Rattle.crs_rules.proofs.SortLemmas.{AllSortFrom}
use Rattle.crs_rules.proofs.rewriting.order.sort.Given as goal

abbrev pub invariant-loop-from : goal.invariant-loop-from
invariant-loop-from l = AllSortFrom l.fn.texts.items l.fn.axes l.axes l.from l.texts.items

abbrev pub decreases-loop-from : goal.decreases-loop-from
decreases-loop-from l = l.from
