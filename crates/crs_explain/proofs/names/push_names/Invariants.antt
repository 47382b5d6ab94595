use Rattle.std.proofs.Common.{◌≡◌, ◌++◌, drop}
use Rattle.std.specs.List.{flat_map}
use Rattle.crs_explain.specs.Expected.{class_names}
use Rattle.crs_explain.proofs.names.push_names.Given as goal

abbrev pub invariant-loop-class : goal.invariant-loop-class
invariant-loop-class l =
    l.out.items ++ flat_map class_names (drop l.class-index l.classes)
    ≡ l.fn.out.items ++ flat_map class_names l.classes
