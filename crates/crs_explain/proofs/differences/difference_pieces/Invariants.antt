use Rattle.std.proofs.Common.{◌≡◌, ◌++◌, drop}
use Rattle.std.specs.List.{flat_map}
use Rattle.crs_explain.specs.Differing.{part_pieces}
use Rattle.crs_explain.proofs.differences.difference_pieces.Given as goal

abbrev pub invariant-loop-difference : goal.invariant-loop-difference
invariant-loop-difference l =
    l.pieces ++ flat_map part_pieces (drop l.difference-index l.differences) ≡ flat_map part_pieces l.differences
