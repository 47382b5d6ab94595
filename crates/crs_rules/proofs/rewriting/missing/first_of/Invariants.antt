use Rattle.std.proofs.Common.{◌≡◌, drop, map}
use Rattle.crs_rules.specs.Rewritten.{axis, first_unit_of, units_of}
use Rattle.crs_rules.specs.Rules.{meaning}
use Rattle.crs_rules.proofs.rewriting.missing.first_of.Given as goal

abbrev pub invariant-loop-axis : goal.invariant-loop-axis
invariant-loop-axis l =
    first_unit_of (units_of l.kind (map (axis (meaning l.rules)) (drop l.axis-index l.axes)))
    ≡ first_unit_of (units_of l.kind (map (axis (meaning l.rules)) l.axes))
