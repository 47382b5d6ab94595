use Rattle.std.proofs.Common.{◌≡◌, rules}
use Rattle.std.proofs.lemmas.Result.{IfErr-weaker, IfOk-weaker}
use Rattle.crs_streams.specs.declared.fault.RunFault.TheVariants.{Memory}
use Rattle.crs_desk.proofs.LinesRunLemmas.{end-first, failures-told, lines-answered, lines-fault, none-begun}
use Rattle.crs_desk.proofs.runs.lines.run_lines.Goals as goal

pub returns-in_err-room-clause-fault : goal.returns-in_err-room-clause-fault
returns-in_err-room-clause-fault g c =
    IfErr-weaker c.from_residual.result (λ error. error ≡ Memory) _ (λ error is. rw is
    (none-begun c.lines_are_cut.ensures (g.C.TextCommand.Output c.args.command.now) c.args.source.now c.args.sink.now c.requires.source c.requires.sink)) (search rules)

pub returns-clause-answered : goal.returns-clause-answered
returns-clause-answered g c =
    IfOk-weaker c.finish.result _ _ (λ status. lines-answered c.lines_are_cut.ensures c.in_ok-read_through.ensures.ok) c.finish.ensures.written

pub returns-clause-fault : goal.returns-clause-fault
returns-clause-fault g c =
    IfErr-weaker c.finish.result _ _ (λ fault. lines-fault c.lines_are_cut.ensures c.finish.new.sink fault c.in_ok-read_through.ensures.ok) c.finish.ensures.fault

pub returns-clause-past_failure : goal.returns-clause-past_failure
returns-clause-past_failure g c =
    end-first c.lines_are_cut.ensures c.finish.new.sink c.finish.result c.in_ok-read_through.ensures.ok c.finish.ensures.written c.finish.ensures.fault

pub returns-clause-read_failed : goal.returns-clause-read_failed
returns-clause-read_failed g c =
    (failures-told (g.C.TextCommand.Output c.args.command.now) c.args.source.now _ c.args.sink.now _ c.finish.result
    (returns-clause-answered g c) (returns-clause-fault g c)).0

pub returns-clause-write_failed : goal.returns-clause-write_failed
returns-clause-write_failed g c =
    (failures-told (g.C.TextCommand.Output c.args.command.now) c.args.source.now _ c.args.sink.now _ c.finish.result
    (returns-clause-answered g c) (returns-clause-fault g c)).1
