use Rattle.std.proofs.Common.{ap, ◌∙◌}
use Rattle.crs_rules.specs.inner.Firsts.{place_of}
use Rattle.crs_rules.specs.Rules.{is_declared, kind_or_plain}
use Rattle.crs_rules.proofs.FirstsLemmas.{from-first, none-there}
use Rattle.crs_rules.proofs.LookUpLemmas.{digest_of_kind, kinds-have}
use Rattle.crs_rules.proofs.aliases.known_kind.Goals as goal

pub returns-in-None : goal.returns-in-None
returns-in-None c =
    rw (← c.kinds.view_is)
    (ap kind_or_plain
    (none-there digest_of_kind (is_declared c.args.name.now) _ c.kinds.inside.firsts.entries _
    (kinds-have c.args.name.now _) c.kinds.invariant (c.in-None.ensures ∙ ap (place_of c.kinds.inside.firsts.entries) c.name_digest.ensures)))

pub returns-in-Some : goal.returns-in-Some
returns-in-Some c =
    simp (c.kind_among-in-Some.ensures, c.rest_of.ensures, c.as_slice-in-Some.ensures.value, ← c.kinds.view_is)
    (ap kind_or_plain
    (from-first digest_of_kind (is_declared c.args.name.now) _ c.kinds.inside.firsts.entries _ _
    (kinds-have c.args.name.now _) c.kinds.invariant (c.in-Some.ensures ∙ ap (place_of c.kinds.inside.firsts.entries) c.name_digest.ensures)))
