use Rattle.crs_rules.proofs.FactorLemmas.{factor-tested}
use Rattle.crs_rules.proofs.aliases.has_factor.Goals as goal

pub returns : goal.returns
returns c =
    rw (← c.unit.view_is, ← c.alias.view_is)
    (factor-tested c.denotes_one.ensures c.normal_is_one.ensures c.plain_is_the_one.ensures.denotes
    c.unit.inside.factor c.alias.inside.alias_factor c.same_number.result c.unit.invariant.factor c.alias.invariant.alias_factor
    c.same_number.ensures)
