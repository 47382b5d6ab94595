use Rattle.std.proofs.Common.{[], sym, subst}
use Rattle.crs_group.specs.inner.GroupReading.{IsLedgerOfNamed}
use Rattle.crs_group.proofs.LineAddedLemmas.{none-named}
use Rattle.crs_group.proofs.ledger.Ledger.of.Goals as goal

pub returns-clause-texts : goal.returns-clause-texts
returns-clause-texts g c =
    let Form = g.A.Adding.Form c.args.adding.now in
    let Share = g.A.Adding.Share c.args.adding.now in
    subst (IsLedgerOfNamed Form Share []) (sym c.new.ensures) (none-named Form Share c.level.result)
