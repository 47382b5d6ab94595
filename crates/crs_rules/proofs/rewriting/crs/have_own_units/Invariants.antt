use Rattle.std.proofs.Common.{◌≡◌, drop}
use Rattle.std.specs.List.{list_all}
use Rattle.std.specs.Option.{is_some}
use Rattle.crs_rules.proofs.rewriting.crs.have_own_units.Given as goal

abbrev pub invariant-loop-parameter : goal.invariant-loop-parameter
invariant-loop-parameter l =
    list_all (λ p. is_some p.unit) (drop l.parameter-index l.parameters) ≡ list_all (λ p. is_some p.unit) l.parameters
