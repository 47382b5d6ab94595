use Rattle.crs_text.specs.inner.Prelude.{arguments, count}
use Rattle.crs_value.specs.inner.Arguments.{item_at, ahead}
use Rattle.crs_value.proofs.found.FirstArgumentsLemmas.{Seen}
use Rattle.crs_value.proofs.reading.firsts.firsts_of.Given as goal

abbrev pub invariant-loop-next : goal.invariant-loop-next
invariant-loop-next l = Seen l.items l.parent (arguments (item_at l.items l.fn.id)) l.firsts l.next

abbrev pub decreases-loop-next : goal.decreases-loop-next
decreases-loop-next l = count (ahead l.items l.next)
