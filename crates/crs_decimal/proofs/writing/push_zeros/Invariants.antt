use Rattle.std.proofs.Common.{◌≡◌, ◌++◌, replicate}
use Rattle.crs_decimal.proofs.writing.push_zeros.Given as goal

abbrev pub invariant-loop-step : goal.invariant-loop-step
invariant-loop-step l = l.text.items ≡ l.initial.text.items ++ replicate l._step 48
