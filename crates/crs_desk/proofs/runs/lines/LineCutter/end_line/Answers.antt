use Rattle.std.proofs.Common.{◌≡◌, ◌++◌, ◌∷◌, ap, arith, length, rules, subst, sym}
use Rattle.std.proofs.lemmas.Result.{IfErr-weaker, IfOk-weaker}
use Rattle.crs_desk.specs.inner.LineCutting.{CutterParts, IsLinesCut}
use Rattle.crs_desk.proofs.LineCutLemmas.{cut-unsendable, line-ended, line-starved, line-unsent, over-end}
use Rattle.crs_desk.proofs.runs.lines.LineCutter.end_line.Goals as goal

pub returns-in_err-send-clause-fault : goal.returns-in_err-send-clause-fault
returns-in_err-send-clause-fault g c =
    let Output = g.C.TextCommand.Output c.args.command.now in
    IfErr-weaker c.from_residual.result (λ error. error ≡ c.in_err-send.field-0.0) _ (λ error is. rw is
    (λ before bytes rest small cut. cut-unsendable (c.args.line.now ++ 10 ∷ rest)
    (subst (λ (k : CutterParts). IsLinesCut Output before bytes k c.args.sink.now) (sym c.self.view_is) cut)
    c.in_err-send.ensures.cut)) (search rules)

pub returns-then-is_over-clause-fault : goal.returns-then-is_over-clause-fault
returns-then-is_over-clause-fault g c before bytes rest small cut =
    let Output = g.C.TextCommand.Output c.args.command.now in
    let over = c.is_over.ensures.over c.if-is_over.true in
    over-end c.lines_are_cut.ensures c.args.line.now (10 ∷ rest) c.requires.one
    (omega (arith, over, ap (λ (k : CutterParts). length k.partial) c.self.view_is)) c.in_ok-send.ensures.sent small
    (subst (λ (k : CutterParts). IsLinesCut Output before bytes k c.args.sink.now) (sym c.self.view_is) cut)

pub returns-in_err-put_line-clause-fault : goal.returns-in_err-put_line-clause-fault
returns-in_err-put_line-clause-fault g c =
    IfErr-weaker c.from_residual-in_err-put_line.result (λ error. error ≡ c.in_err-put_line.field-0.0) _ (λ error is. rw is
    (λ before bytes rest small. line-starved (c.args.line.now ++ 10 ∷ rest) c.in_err-put_line.ensures.fault)) (search rules)

pub returns-clause-cut : goal.returns-clause-cut
returns-clause-cut g c =
    IfOk-weaker c.send_block.result _ _
    (λ _ flushed before bytes. line-ended c.lines_are_cut.ensures c.args.line.now c.in_ok-put_line.ensures.put c.self-2.view_is c.requires.one
    (c.is_over.ensures.fits c.if-is_over.false) flushed)
    c.send_block.ensures.sent

pub returns-clause-fault : goal.returns-clause-fault
returns-clause-fault g c =
    IfErr-weaker c.send_block.result _ _
    (λ fault unsent before bytes rest small. line-unsent c.lines_are_cut.ensures c.args.line.now rest c.in_ok-put_line.ensures.put c.self-2.view_is c.requires.one unsent)
    c.send_block.ensures.cut
