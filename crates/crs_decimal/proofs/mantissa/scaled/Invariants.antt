use Rattle.std.proofs.Common.{◌≡◌, ◌*◌, ◌^◌}
use Rattle.crs_decimal.proofs.mantissa.scaled.Given as goal

abbrev pub invariant-loop-step : goal.invariant-loop-step
invariant-loop-step l = l.product ≡ l.digits * 10 ^ l._step
