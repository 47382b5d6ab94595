use Rattle.std.proofs.Common.{ap, subst, ◌∙◌}
use Rattle.crs_decimal.specs.inner.Prelude.{IsNormal}
use Rattle.crs_value.specs.inner.Prelude.{UnitParts}
use Rattle.crs_rules.specs.inner.Firsts.{place_of, unit_digest}
use Rattle.crs_rules.specs.Rules.{is_unit_alias}
use Rattle.crs_rules.proofs.FirstsLemmas.{from-first, none-there}
use Rattle.crs_rules.proofs.LookUpLemmas.{digest_of_unit, units-have}
use Rattle.crs_rules.proofs.aliases.unit_alias.Goals as goal

pub returns-in-None : goal.returns-in-None
returns-in-None c =
    let digest = simp c.digits.ensures.value at c.unit_digest.ensures ∙ ap (λ (u : UnitParts). unit_digest u.name u.factor.digits) c.unit.view_is in
    rw (← c.units.view_is)
    (none-there digest_of_unit (is_unit_alias c.args.unit.now) _ c.units.inside.firsts.entries _
    (units-have c.denotes_one.ensures c.plain_is_the_one.ensures.denotes c.args.unit.now
    (subst (λ (u : UnitParts). IsNormal u.factor) c.unit.view_is c.unit.invariant.factor) _ (rw (← c.units.view_is) at c.requires))
    c.units.invariant (c.in-None.ensures ∙ ap (place_of c.units.inside.firsts.entries) digest))

pub returns-in-Some : goal.returns-in-Some
returns-in-Some c =
    let digest = simp c.digits.ensures.value at c.unit_digest.ensures ∙ ap (λ (u : UnitParts). unit_digest u.name u.factor.digits) c.unit.view_is in
    simp (c.unit_alias_among-in-Some.ensures, c.rest_of.ensures, c.as_slice-in-Some.ensures.value, ← c.units.view_is)
    (from-first digest_of_unit (is_unit_alias c.args.unit.now) _ c.units.inside.firsts.entries _ _
    (units-have c.denotes_one.ensures c.plain_is_the_one.ensures.denotes c.args.unit.now
    (subst (λ (u : UnitParts). IsNormal u.factor) c.unit.view_is c.unit.invariant.factor) _ (rw (← c.units.view_is) at c.requires))
    c.units.invariant (c.in-Some.ensures ∙ ap (place_of c.units.inside.firsts.entries) digest))
