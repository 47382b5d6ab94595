use Rattle.std.proofs.Common.{◌≡◌, drop}
use Rattle.crs_rules.specs.Rules.{first_that, is_name_alias}
use Rattle.crs_rules.proofs.aliases.name_alias_among.Given as goal

abbrev pub invariant-loop-alias : goal.invariant-loop-alias
invariant-loop-alias l =
    first_that (is_name_alias l.class l.name) (drop l.alias-index l.aliases) ≡ first_that (is_name_alias l.class l.name) l.aliases
