use Rattle.std.proofs.Common.{◌-◌, length}
use Rattle.crs_text.specs.inner.Scan.{IsReached}
use Rattle.crs_text.proofs.scanning.scan_from.Given as goal

abbrev pub invariant-loop-at : goal.invariant-loop-at
invariant-loop-at l = IsReached l.text l.table l.at

abbrev pub decreases-loop-at : goal.decreases-loop-at
decreases-loop-at l = length l.text - l.at
