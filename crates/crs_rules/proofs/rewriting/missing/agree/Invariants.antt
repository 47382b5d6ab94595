use Rattle.std.proofs.Common.{◌≡◌, drop, map}
use Rattle.std.specs.List.{list_all}
use Rattle.crs_rules.specs.Rewritten.{axis, is_same_unit, units_of}
use Rattle.crs_rules.specs.Rules.{meaning}
use Rattle.crs_rules.proofs.rewriting.missing.agree.Given as goal

abbrev pub invariant-loop-axis : goal.invariant-loop-axis
invariant-loop-axis l =
    list_all (is_same_unit l.unit) (units_of l.kind (map (axis (meaning l.rules)) (drop l.axis-index l.axes)))
    ≡ list_all (is_same_unit l.unit) (units_of l.kind (map (axis (meaning l.rules)) l.axes))
