use Rattle.std.proofs.Common.{◌≡◌, drop}
use Rattle.crs_rules.specs.Rules.{first_that, is_unit_alias}
use Rattle.crs_rules.proofs.aliases.unit_alias_among.Given as goal

abbrev pub invariant-loop-alias : goal.invariant-loop-alias
invariant-loop-alias l =
    first_that (is_unit_alias l.unit) (drop l.alias-index l.aliases) ≡ first_that (is_unit_alias l.unit) l.aliases
