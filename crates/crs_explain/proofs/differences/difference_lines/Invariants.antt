use Rattle.std.proofs.Common.{◌≡◌, ◌++◌, drop}
use Rattle.std.specs.List.{flat_map}
use Rattle.crs_explain.specs.Differing.{difference_line}
use Rattle.crs_explain.proofs.differences.difference_lines.Given as goal

abbrev pub invariant-loop-difference : goal.invariant-loop-difference
invariant-loop-difference l =
    l.lines.items ++ flat_map difference_line (drop l.difference-index l.differences) ≡ flat_map difference_line l.differences
