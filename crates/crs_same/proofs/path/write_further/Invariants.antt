use Rattle.std.proofs.Common.{◌≡◌, ◌++◌, length, take, drop}
use Rattle.crs_same.specs.Paths.{further_text}
use Rattle.crs_same.proofs.path.write_further.Given as goal

abbrev pub invariant-loop-step : goal.invariant-loop-step
invariant-loop-step l =
    (take (length l.initial.out.items) l.out.items ≡ l.initial.out.items)
    × (l.out.items ++ further_text (drop l.step-index l.steps) ≡ l.initial.out.items ++ further_text l.steps)
