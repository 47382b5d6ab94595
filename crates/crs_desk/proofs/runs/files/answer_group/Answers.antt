use Rattle.std.proofs.Common.{refl, rules}
use Rattle.crs_group.specs.GroupOutput.{IsGroupOutputBy}
use Rattle.crs_desk.specs.LinesRun.{prefixed}
use Rattle.crs_desk.proofs.FileLemmas.{groups-held, unread-file}
use Rattle.crs_desk.proofs.runs.files.answer_group.Goals as goal

pub returns-in-Ok-clause-answered : goal.returns-in-Ok-clause-answered
returns-in-Ok-clause-answered g c =
    let Output = IsGroupOutputBy (g.A.Adding.Form c.args.adding) (g.A.Adding.Share c.args.adding) c.args.listing (g.A.Adding.level c.args.adding) in
    let held = groups-held Output (g.R.Read.remaining c.args.reader) c.new-source.result c.run_adding.new.r
    c.new-held.result c.run_adding.new.w c.in-Ok.summary c.into_inner.result.items (search rules) (search rules)
    (search rules) c.in-Ok.ensures.answered in (
      prefixed c.args.prefix.now c.into_inner.result.items,
      (held.0, held.1, (c.into_inner.result.items, (c.in-Ok.summary, held.2, search rules), refl)),
      c.in_ok-send-in-Ok.ensures.sent,
      c.in_ok-send-in-Ok.ensures.healthy,
    )

pub returns-clause-fault : goal.returns-clause-fault
returns-clause-fault g c =
    unread-file c.args.prefix.now (g.R.Read.remaining c.args.reader) c.args.sink.now c.in-Err.fault c.requires (search rules)
