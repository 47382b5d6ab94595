use Rattle.std.proofs.Common.{length, ◌-◌, ◌≤◌, take}
use Rattle.crs_text.specs.Tokens.{IsInside}
use Rattle.crs_text.proofs.lexing.closing_quote.Given as goal

abbrev pub invariant-loop-at : goal.invariant-loop-at
invariant-loop-at l = (l.at ≤ length l.after) × IsInside (take l.at l.after)

abbrev pub decreases-loop-at : goal.decreases-loop-at
decreases-loop-at l = length l.after - l.at
