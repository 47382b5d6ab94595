use Rattle.std.proofs.Common.{ap, ◌∙◌}
use Rattle.crs_rules.specs.inner.Firsts.{place_of}
use Rattle.crs_rules.specs.Rules.{is_name_alias}
use Rattle.crs_rules.proofs.FirstsLemmas.{from-first, none-there}
use Rattle.crs_rules.proofs.LookUpLemmas.{digest_of_name, names-have}
use Rattle.crs_rules.proofs.aliases.name_alias.Goals as goal

pub returns-in-None : goal.returns-in-None
returns-in-None c =
    rw (← c.names.view_is)
    (none-there digest_of_name (is_name_alias c.args.class c.args.name.now) _ c.names.inside.firsts.entries _
    (names-have c.args.class c.args.name.now _) c.names.invariant (c.in-None.ensures ∙ ap (place_of c.names.inside.firsts.entries) c.name_digest.ensures))

pub returns-in-Some : goal.returns-in-Some
returns-in-Some c =
    simp (c.name_alias_among-in-Some.ensures, c.rest_of.ensures, c.as_slice-in-Some.ensures.value, ← c.names.view_is)
    (from-first digest_of_name (is_name_alias c.args.class c.args.name.now) _ c.names.inside.firsts.entries _ _
    (names-have c.args.class c.args.name.now _) c.names.invariant (c.in-Some.ensures ∙ ap (place_of c.names.inside.firsts.entries) c.name_digest.ensures))
