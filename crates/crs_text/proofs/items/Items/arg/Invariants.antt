use Rattle.crs_text.specs.Items.{arguments, first_of, skip, here, IsAt}
use Rattle.crs_text.proofs.items.Items.arg.Given as goal

abbrev pub invariant-loop-step : goal.invariant-loop-step
invariant-loop-step l = IsAt l.self (skip l._step (arguments (first_of (here l.self l.fn.id)))) l.at
