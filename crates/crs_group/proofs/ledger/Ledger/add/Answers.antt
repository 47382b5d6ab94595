use Rattle.crs_group.proofs.LineAddedLemmas.{ledger-step}
use Rattle.crs_group.proofs.ledger.Ledger.add.Goals as goal

pub returns-clause-texts : goal.returns-clause-texts
returns-clause-texts g c lines ledger =
    let line = c.args.line.now in
    let names = c.self.inside.names in
    let number = c.self.inside.lines in
    ledger-step (g.A.Adding.Form c.args.way.now.adding) (g.A.Adding.Share c.args.way.now.adding) c.args.way.now.named
    lines line c.text_in.result.now c.args.self.now c.self.inside.catalogue c.add.new.catalogue names c.keep.new.self c.self.inside.blanks.items c.keep_blank.new.blanks.items number
    c.self.inside.blank c.blank_count.result c.in_ok-placed.placed c.self.view_is c.text_in.ensures c.in_ok-placed.ensures.catalogue c.in_ok-keep.ensures c.in_ok-keep_blank.ensures
    c.blank_count.ensures.count ledger
