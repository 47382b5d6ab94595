use Rattle.std.proofs.Common.{◌≡◌, ◌++◌, drop}
use Rattle.std.specs.List.{flat_map}
use Rattle.crs_explain.specs.Json.{difference_object}
use Rattle.crs_explain.proofs.differences.difference_objects.Given as goal

abbrev pub invariant-loop-difference : goal.invariant-loop-difference
invariant-loop-difference l =
    l.objects.items ++ flat_map difference_object (drop l.difference-index l.differences) ≡ flat_map difference_object l.differences
