use Rattle.std.proofs.Common.{◌≡◌, ◌+◌, ◌*◌, ◌^◌, ◌≤◌, ◌<◌}
use Rattle.crs_decimal.proofs.short.stripped.Given as goal

abbrev pub invariant-loop-digits : goal.invariant-loop-digits
invariant-loop-digits l = record {
  product : l.number ≡ l.digits * 10 ^ l.zeros;
  some : 0 < l.digits;
  room : l.zeros + l.digits ≤ l.number;
}

abbrev pub decreases-loop-digits : goal.decreases-loop-digits
decreases-loop-digits l = l.digits
