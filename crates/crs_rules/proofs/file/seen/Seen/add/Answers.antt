use Rattle.crs_rules.proofs.NodeAmongLemmas.{is-added-as}
use Rattle.crs_rules.proofs.file.seen.Seen.add.Goals as goal

pub returns-clause-added : goal.returns-clause-added
returns-clause-added c =
    is-added-as c.self.inside.keys.keys c.args.self.now c.in_ok-key_of.field-0 c.args.member.now c.in_ok-insert.field-0
    c.insert.new.self.keys c.self.view_is c.in_ok-key_of.ensures c.in_ok-insert.ensures.added c.in_ok-insert.ensures.keys
