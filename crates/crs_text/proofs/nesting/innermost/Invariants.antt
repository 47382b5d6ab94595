use Rattle.std.proofs.Common.{◌-◌, reverse}
use Rattle.crs_text.proofs.nesting.innermost.Given as goal
use Rattle.crs_text.proofs.rows.NestingLemmas.{IsNested}

abbrev pub invariant-loop-at : goal.invariant-loop-at
invariant-loop-at l = IsNested l.text l.place l.at (reverse l.nest.items)

abbrev pub decreases-loop-at : goal.decreases-loop-at
decreases-loop-at l = l.end - l.at
