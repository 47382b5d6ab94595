use Rattle.std.proofs.Common.{◌≡◌, rules, ℕ, List, IfOk}
use Rattle.crs_group.specs.inner.GroupReading.{IsCutTo, IsLedgerFor}
use Rattle.crs_group.proofs.GroupCutLemmas.{cut-fresh}
use Rattle.crs_group.proofs.GroupRunLemmas.{kept, read-fits, whole-ledger}
use Rattle.crs_group.proofs.running.read_ledger.Goals as goal

pub read_into-requires-clause-cutter : goal.read_into-requires-clause-cutter
read_into-requires-clause-cutter g c =
    cut-fresh c.lines_are_cut.ensures (g.A.Adding.Form c.args.way.now.adding) (g.A.Adding.Share c.args.way.now.adding) c.args.way.now.named c.level.result c.new-cutter.result c.new-cutter.ensures.empty

pub finish-requires : goal.finish-requires
finish-requires g c =
    read-fits c.lines_are_cut.ensures (g.A.Adding.Form c.args.way.now.adding) (g.A.Adding.Share c.args.way.now.adding) c.args.way.now.named c.args.source.now c.read_into.new.source c.read_into.new.cutter c.in_ok-read_into.ensures.ok

pub returns-clause-ok : goal.returns-clause-ok
returns-clause-ok g c =
    let Form = g.A.Adding.Form c.args.way.now.adding in
    let Share = g.A.Adding.Share c.args.way.now.adding in
    let named = c.args.way.now.named in
    let lines : IfOk c.map_err-2.result
    (λ ledger. (bytes : List ℕ) → IsCutTo Form Share named bytes c.read_into.new.cutter → IsLedgerFor Form Share named bytes ledger) =
    kept (λ ledger. (bytes : List ℕ) → IsCutTo Form Share named bytes c.read_into.new.cutter → IsLedgerFor Form Share named bytes ledger)
    _ c.finish.result c.map_err-2.result c.map_err-2.ensures.cases c.map_err-2.ensures.variant c.finish.ensures.lines in
    let level : IfOk c.map_err-2.result (λ ledger. ledger.catalogue.level ≡ g.A.Adding.level c.args.way.now.adding) = search rules in
    whole-ledger c.lines_are_cut.ensures Form Share named (g.A.Adding.level c.args.way.now.adding) c.args.source.now c.read_into.new.source c.read_into.new.cutter c.map_err-2.result
    c.in_ok-read_into.ensures.ok lines level
