use Rattle.std.proofs.Common.{◌≡◌, drop}
use Rattle.crs_explain.specs.Differing.{has_part}
use Rattle.crs_desk.proofs.runs.under.has_part.Given as goal

abbrev pub invariant-loop-difference : goal.invariant-loop-difference
invariant-loop-difference l =
    has_part l.fn.differences l.fn.part ≡ has_part (drop l.difference-index l.fn.differences) l.fn.part
