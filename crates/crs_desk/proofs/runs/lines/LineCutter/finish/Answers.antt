use Rattle.std.proofs.Common.{◌≡◌, ap, rules, subst, sym, true}
use Rattle.std.proofs.lemmas.Result.{IfErr-weaker}
use Rattle.crs_desk.specs.declared.runs.lines.LineCutter.TheInside.{Inside}
use Rattle.crs_desk.specs.inner.LineCutting.{CutterParts, IsPutOut, IsWrittenOut, WriterParts}
use Rattle.crs_desk.proofs.LineCutLemmas.{end-sent, end-starved, put-cut}
use Rattle.crs_desk.proofs.runs.lines.LineCutter.finish.Goals as goal

pub returns-in_err-end_last-clause-fault : goal.returns-in_err-end_last-clause-fault
returns-in_err-end_last-clause-fault g c =
    IfErr-weaker c.from_residual.result (λ error. error ≡ c.in_err-end_last.field-0.0) _ (λ error is. rw is
    (λ before bytes. end-starved c.in_err-end_last.ensures.fault)) (search rules)

pub returns-in_err-send-clause-fault : goal.returns-in_err-send-clause-fault
returns-in_err-send-clause-fault g c =
    IfErr-weaker c.from_residual-in_err-send.result (λ error. error ≡ c.in_err-send.field-0.0) _ (λ error is. rw is
    (λ before bytes cut. put-cut
    (subst (λ (w : WriterParts). IsPutOut (g.C.TextCommand.Output c.args.command.now) true before bytes w c.args.sink.now)
    (sym (ap (λ (k : CutterParts). k.writer) c.self.view_is)) (c.in_ok-end_last.ensures.put before c.args.sink.now bytes cut))
    c.in_err-send.ensures.cut)) (search rules)

pub returns-clause-written : goal.returns-clause-written
returns-clause-written g c before bytes cut =
    let Output = g.C.TextCommand.Output c.args.command.now in
    subst (IsWrittenOut Output before bytes c.send.new.sink) (sym (ap (λ (k : Inside). k.writer.status) c.self-inside.view_is))
    (end-sent (subst (λ (w : WriterParts). IsPutOut Output true before bytes w c.args.sink.now)
    (sym (ap (λ (k : CutterParts). k.writer) c.self.view_is)) (c.in_ok-end_last.ensures.put before c.args.sink.now bytes cut))
    c.in_ok-send.ensures.sent)
