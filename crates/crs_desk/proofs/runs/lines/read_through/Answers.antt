use Rattle.std.proofs.Common.{◌≡◌, ◌++◌, [], arith, false, length-take, rules, take, Ok}
use Rattle.std.proofs.lemmas.Result.{IfErr-weaker}
use Rattle.crs_streams.specs.declared.fault.RunFault.TheVariants.{ReadFailed}
use Rattle.crs_desk.proofs.LineCutLemmas.{cut-none, stopped-first}
use Rattle.crs_desk.proofs.LinesRunLemmas.{failed-read, given-none, lines-fit, many-reads, stopped-fault}
use Rattle.crs_desk.proofs.runs.lines.read_through.Goals as goal

pub loop-turn-init : goal.loop-turn-init
loop-turn-init g c = record {
  room = c.requires.room;
  reads = search rules;
  unended = search rules;
  within = search rules;
  healthy = search rules;
  cut = (
    [],
    given-none c.args.source.now c.requires.source,
    cut-none c.lines_are_cut.ensures c.args.cutter.now c.requires.sink c.requires.cutter,
  );
  sent = search rules;
}

pub returns-in_err-count-clause-err : goal.returns-in_err-count-clause-err
returns-in_err-count-clause-err g c =
    let cut = c.loop-turn.invariant.cut in
    IfErr-weaker c.from_residual.result (λ error. error ≡ ReadFailed) _ (λ error is. rw is
    (failed-read c.lines_are_cut.ensures c.read.new.self c.read.result cut.1 cut.2 c.loop-turn.invariant.sent c.read.ensures.kept
    c.read.ensures.counted (search rules))) (search rules)

pub take-requires-clause-fits : goal.take-requires-clause-fits
take-requires-clause-fits g c =
    let cut = c.loop-turn.invariant.cut in
    let got : c.read.result ≡ Ok c.in_ok-count.count = search rules in
    lines-fit c.lines_are_cut.ensures (take c.in_ok-count.count c.read.new.room) cut.2
    ((rw got at c.read.ensures.given) c.args.source.now cut.0 cut.1)
    (omega (arith, c.read.ensures.few, c.read.ensures.counted.one_more, c.loop-turn.invariant.reads, c.loop-turn-test.true))

pub take-requires-clause-small : goal.take-requires-clause-small
take-requires-clause-small g c =
    omega (arith, length-take c.in_ok-count.count c.read.new.room, c.read.auto.room, c.loop-turn.invariant.room)

pub returns-in_err-take-clause-err : goal.returns-in_err-take-clause-err
returns-in_err-take-clause-err g c =
    let cut = c.loop-turn.invariant.cut in
    let got : c.read.result ≡ Ok c.in_ok-count.count = search rules in
    let healthy : c.read.new.self.failed ≡ false = search rules in
    let given = (rw got at c.read.ensures.given) c.args.source.now cut.0 cut.1 in
    IfErr-weaker c.from_residual-in_err-take.result (λ error. error ≡ c.in_err-take.field-0.0) _ (λ error is. rw is
    (stopped-fault (g.C.TextCommand.Output c.args.command.now) c.args.sink.now c.take.new.sink c.in_err-take.field-0.0 given healthy
    (c.in_err-take.ensures.fault c.args.sink.now cut.0 cut.2))) (search rules)

pub returns-in_err-take-clause-past_failure : goal.returns-in_err-take-clause-past_failure
returns-in_err-take-clause-past_failure g c =
    let cut = c.loop-turn.invariant.cut in
    stopped-first (g.C.TextCommand.Output c.args.command.now) false c.args.sink.now c.take.new.sink
    (cut.0 ++ take c.in_ok-count.count c.read.new.room) c.in_err-take.field-0.0
    (c.in_err-take.ensures.fault c.args.sink.now cut.0 cut.2)

pub loop-turn-preserved : goal.loop-turn-preserved
loop-turn-preserved g c =
    let cut = c.loop-turn.invariant.cut in
    let got : c.read.result ≡ Ok c.in_ok-count.count = search rules in
    let given = (rw got at c.read.ensures.given) c.args.source.now cut.0 cut.1 in record {
      room = search rules;
      reads = search rules;
      unended = search rules;
      within = search rules;
      healthy = search rules;
      cut = (
        cut.0 ++ take c.in_ok-count.count c.read.new.room,
        given,
        c.in_ok-take.ensures.cut c.args.sink.now cut.0 cut.2,
      );
      sent = c.in_ok-take.ensures.sent;
    }

pub returns-clause-err : goal.returns-clause-err
returns-clause-err g c =
    let cut = c.loop-turn.invariant.cut in
    many-reads c.lines_are_cut.ensures cut.1 cut.2 c.loop-turn.invariant.sent c.loop-turn.invariant.healthy c.loop-turn.invariant.unended
    (omega (arith, c.loop-turn.invariant.reads, c.loop-turn-test.false, c.loop-turn.auto.turn-end))
