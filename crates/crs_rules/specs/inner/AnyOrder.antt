-- A bridge: rules by which the order of axes alone doesn't count, so that a CRS needn't be read twice.
use Rattle.std.specs.Prelude.{true}
use Rattle.crs_rules.specs.Rules.{RulesParts, no_rules, nothing}

-- rules by which nothing counts as another, and all counts but the order of axes
abbrev pub axes_in_any_order : RulesParts
axes_in_any_order = record no_rules { uncounted = record nothing { axis_order = true } }
