use Rattle.std.proofs.Common.{◌≡◌, ◌≤◌, ◌-◌, ◌++◌, length, replicate, take}
use Rattle.crs_decimal.proofs.plain.kept_len.Given as goal

abbrev pub invariant-loop-end : goal.invariant-loop-end
invariant-loop-end l =
    (l.end ≤ length l.fraction) × (l.fraction ≡ take l.end l.fraction ++ replicate (length l.fraction - l.end) 48)

abbrev pub decreases-loop-end : goal.decreases-loop-end
decreases-loop-end l = l.end
