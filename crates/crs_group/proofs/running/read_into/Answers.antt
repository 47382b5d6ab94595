use Rattle.std.proofs.Common.{◌≡◌, ◌++◌, arith, false, length-take, rules, take, Ok}
use Rattle.crs_group.specs.GroupRun.{IsReadingFault}
use Rattle.crs_streams.specs.declared.fault.RunFault.TheVariants.{ReadFailed}
use Rattle.crs_group.proofs.FaultLemmas.{handed-on}
use Rattle.crs_group.proofs.GroupRunLemmas.{failed-read, fault-in-piece, gives-short, lines-fit}
use Rattle.crs_group.proofs.running.read_into.Goals as goal

pub returns-in_err-count-clause-err : goal.returns-in_err-count-clause-err
returns-in_err-count-clause-err g c =
    let cut = c.loop-turn.invariant.cut in
    handed-on c.from_residual.result ReadFailed (IsReadingFault c.args.source.now c.read.new.self) (search rules)
    (failed-read c.lines_are_cut.ensures (g.A.Adding.Form c.args.way.now.adding) (g.A.Adding.Share c.args.way.now.adding) c.args.way.now.named c.args.source.now c.loop-turn.source c.read.new.self cut.0 c.loop-turn.cutter
    c.read.result cut.1 cut.2 c.read.ensures.kept c.read.ensures.counted (search rules))

pub take-requires-clause-fits : goal.take-requires-clause-fits
take-requires-clause-fits g c =
    let cut = c.loop-turn.invariant.cut in
    let got : c.read.result ≡ Ok c.in_ok-count.count = search rules in
    lines-fit c.lines_are_cut.ensures (g.A.Adding.Form c.args.way.now.adding) (g.A.Adding.Share c.args.way.now.adding) c.args.way.now.named cut.0 (take c.in_ok-count.count c.read.new.room) c.loop-turn.cutter
    c.args.source.now c.read.new.self cut.2 ((rw got at c.read.ensures.given) c.args.source.now cut.0 cut.1)
    (omega (arith, c.read.ensures.few, c.read.ensures.counted.one_more, c.loop-turn.invariant.reads, c.loop-turn-test.true))

pub take-requires-clause-small : goal.take-requires-clause-small
take-requires-clause-small g c =
    omega (arith, length-take c.in_ok-count.count c.read.new.room, c.read.auto.room, c.loop-turn.invariant.room)

pub returns-in_err-take-clause-err : goal.returns-in_err-take-clause-err
returns-in_err-take-clause-err g c =
    let cut = c.loop-turn.invariant.cut in
    let got : c.read.result ≡ Ok c.in_ok-count.count = search rules in
    let healthy : c.read.new.self.failed ≡ false = search rules in
    let given = (rw got at c.read.ensures.given) c.args.source.now cut.0 cut.1 in
    handed-on c.from_residual-in_err-take.result c.in_err-take.field-0.0 (IsReadingFault c.args.source.now c.read.new.self) (search rules)
    (fault-in-piece c.args.source.now c.read.new.self (cut.0 ++ take c.in_ok-count.count c.read.new.room)
    c.in_err-take.field-0.0 given healthy (c.in_err-take.ensures.fault cut.0 cut.2))

pub loop-turn-preserved : goal.loop-turn-preserved
loop-turn-preserved g c =
    let cut = c.loop-turn.invariant.cut in
    let got : c.read.result ≡ Ok c.in_ok-count.count = search rules in
    let given = (rw got at c.read.ensures.given) c.args.source.now cut.0 cut.1 in record {
      room = search rules;
      reads = search rules;
      unended = search rules;
      within = search rules;
      healthy = search rules;
      cut = (cut.0 ++ take c.in_ok-count.count c.read.new.room, given, c.in_ok-take.ensures.cut cut.0 cut.2);
      level = search rules;
    }

pub returns-clause-err : goal.returns-clause-err
returns-clause-err g c =
    let cut = c.loop-turn.invariant.cut in (
      c.loop-turn.invariant.healthy,
      omega (arith, c.loop-turn.invariant.reads, c.loop-turn-test.false, c.loop-turn.auto.turn-end),
      c.loop-turn.invariant.unended,
      gives-short c.lines_are_cut.ensures (g.A.Adding.Form c.args.way.now.adding) (g.A.Adding.Share c.args.way.now.adding) c.args.way.now.named c.args.source.now c.loop-turn.source cut.0 c.loop-turn.cutter cut.1 cut.2,
    )
