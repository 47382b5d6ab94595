use Rattle.std.proofs.lemmas.Result.{IfErr-weaker, IfOk-weaker}
use Rattle.crs_desk.specs.LinesRun.{IsLineOutput}
use Rattle.crs_desk.proofs.FileLemmas.{lines-failed, lines-sent}
use Rattle.crs_desk.proofs.PrefixedLemmas.{line-ends}
use Rattle.crs_desk.proofs.runs.files.answer_lines.Goals as goal

pub returns-clause-answered : goal.returns-clause-answered
returns-clause-answered g c =
    let Output = g.C.TextCommand.Output c.args.command in
    IfOk-weaker c.run_lines.result _ _
    (λ status answered. lines-sent (IsLineOutput c.args.blank.now Output) (line-ends c.args.blank.now Output c.requires.ends) c.args.prefix.now
    (g.R.Read.remaining c.args.reader) c.new.ensures answered c.run_lines.ensures.past_failure)
    c.run_lines.ensures.answered

pub returns-clause-fault : goal.returns-clause-fault
returns-clause-fault g c =
    let Output = g.C.TextCommand.Output c.args.command in
    IfErr-weaker c.run_lines.result _ _
    (λ fault stopped. lines-failed (IsLineOutput c.args.blank.now Output) (line-ends c.args.blank.now Output c.requires.ends)
    c.args.prefix.now (g.R.Read.remaining c.args.reader) c.new.result c.run_lines.new.source c.args.sink.now c.run_lines.new.sink
    fault c.new.ensures stopped c.run_lines.ensures.past_failure)
    c.run_lines.ensures.fault
