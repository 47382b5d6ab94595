use Rattle.std.proofs.Common.{◌≡◌, drop}
use Rattle.crs_text.specs.inner.Prelude.{arguments}
use Rattle.crs_value.specs.inner.Prelude.{from_found, item_at, those, Holds}
use Rattle.crs_writer.proofs.nodes.lookup.nth.Given as goal

abbrev pub invariant-loop-step : goal.invariant-loop-step
invariant-loop-step l =
    Holds l.items l.at
    × (from_found l.items l.parent l.class l.at ≡ drop l._step (those l.parent l.class (arguments (item_at l.items l.fn.id))))
