use Rattle.crs_group.proofs.LineAddedLemmas.{named-step}
use Rattle.crs_group.proofs.ledger.Ledger.add_named.Goals as goal

pub returns-clause-texts : goal.returns-clause-texts
returns-clause-texts g c texts ledger =
    named-step (g.A.Adding.Form c.args.adding.now) (g.A.Adding.Share c.args.adding.now)
    texts (record { name = c.args.name.now; text = c.args.text.now }) c.args.self.now c.self.inside.catalogue c.add.new.catalogue
    c.self.inside.names c.push.new.self c.self.inside.blanks.items c.keep_blank_text.new.blanks.items c.self.inside.lines
    c.self.inside.blank c.blank_count.result c.in_ok-placed.placed c.self.view_is c.in_ok-placed.ensures.catalogue c.in_ok-push.ensures
    c.in_ok-keep_blank_text.ensures ledger
