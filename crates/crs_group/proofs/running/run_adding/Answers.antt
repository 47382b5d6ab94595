use Rattle.std.proofs.Common.{rules}
use Rattle.std.proofs.lemmas.Result.{IfOk-weaker}
use Rattle.crs_group.proofs.GroupRunLemmas.{grouped}
use Rattle.crs_group.proofs.running.run_adding.Goals as goal

pub returns : goal.returns
returns g c =
    record {
      answered = IfOk-weaker c.write_listing.result _ _
          (λ summary writes. grouped (g.A.Adding.Form c.args.adding) (g.A.Adding.Share c.args.adding) c.args.listing (g.A.Adding.level c.args.adding)
          c.args.r.now c.read_ledger.new.source c.args.w.now c.write_listing.new.sink c.in_ok-ledger.ledger summary
          c.in_ok-ledger.ensures.ok writes)
          c.write_listing.ensures.ok;
      reads = search rules;
      past_end = search rules;
      fault = search rules;
      read_failed = search rules;
      write_failed = search rules;
      past_failure = search rules;
    }
