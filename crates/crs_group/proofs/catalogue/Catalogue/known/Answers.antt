use Rattle.crs_group.specs.Catalogue.{canons}
use Rattle.crs_group.proofs.KnownLemmas.{all-within, found-known}
use Rattle.crs_group.proofs.catalogue.Catalogue.known.Goals as goal

pub returns-clause-group : goal.returns-clause-group
returns-clause-group c =
    rw (← c.self.view_is)
    (found-known c.self.inside.level (canons c.self.inside.groups) c.self.inside.recent c.args.text.now
    c.group_of.result c.group_of.ensures c.self.invariant)

pub returns-clause-within : goal.returns-clause-within
returns-clause-within c =
    all-within c.args.self.now.level c.args.self.now.groups c.args.text.now c.group_of.result (returns-clause-group c)
