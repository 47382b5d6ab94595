use Rattle.std.proofs.Common.{arith}
use Rattle.crs_group.proofs.GroupTextLemmas.{group-step}
use Rattle.crs_group.proofs.group_text.Listed.write_groups.Goals as goal

pub loop-at-preserved : goal.loop-at-preserved
loop-at-preserved c =
    let ledger = c.args.self.ledger.now in
    group-step c.args.self.listing ledger.names _ c.loop-at.out.items c.write_numbered.new.out.items ledger.catalogue.groups c.loop-at.at
    (omega (arith, c.loop-at-test.true, rw c.catalogue.ensures at c.groups-at-end.ensures)) c.in_ok-write_numbered.ensures
    c.loop-at.invariant
