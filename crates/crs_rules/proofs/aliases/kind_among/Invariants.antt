use Rattle.std.proofs.Common.{◌≡◌, drop}
use Rattle.crs_rules.specs.Rules.{declared_kind}
use Rattle.crs_rules.proofs.aliases.kind_among.Given as goal

abbrev pub invariant-loop-declared : goal.invariant-loop-declared
invariant-loop-declared l = declared_kind (drop l.declared-index l.kinds) l.name ≡ declared_kind l.kinds l.name
