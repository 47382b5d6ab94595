use Rattle.std.proofs.Common.{◌≡◌, ◌∙◌, ◌++◌, ◌∷◌, [], ap, append-nil, append_assoc, arith, length, length-append, refl, rules, subst, sym}
use Rattle.std.proofs.lemmas.Result.{IfErr-weaker, IfOk-weaker}
use Rattle.crs_streams.specs.inner.Prelude.{HasNoFeed}
use Rattle.crs_desk.specs.inner.LineCutting.{CutterParts, IsLinesCut, WriterParts}
use Rattle.crs_desk.proofs.LineCutLemmas.{cut-emptied, cut-kept, cut-unsendable, cutter_of, keep-stopped, piece-step, split-small}
use Rattle.crs_desk.proofs.runs.lines.LineCutter.take.Goals as goal

pub loop-line-init : goal.loop-line-init
loop-line-init g c = record {
  done = (
    [],
    refl,
    λ before bytes cut. subst
        (λ b. IsLinesCut (g.C.TextCommand.Output c.args.command.now) before b c.args.self.now c.args.sink.now)
        (sym (append-nil bytes)) cut,
  );
  lines = omega arith;
  small = omega arith;
}

pub returns-in_err-end_line-clause-fault : goal.returns-in_err-end_line-clause-fault
returns-in_err-end_line-clause-fault g c =
    let done = c.loop-line.invariant.done in
    IfErr-weaker c.from_residual.result (λ error. error ≡ c.in_err-end_line.field-0.0) _ (λ error is. rw is
    (λ before bytes cut. rw (done.1, c.in-Some.ensures.0, ← append_assoc bytes done.0 (c.in-Some.line.now ++ 10 ∷ c.in-Some.left.now))
    (c.in_err-end_line.ensures.fault before (bytes ++ done.0) c.in-Some.left.now
    (split-small done.0 c.in-Some.line.now c.in-Some.left.now c.loop-line.rest.now c.args.piece.now done.1
    c.in-Some.ensures c.requires.small) (done.2 before bytes cut)))) (search rules)

pub loop-line-preserved : goal.loop-line-preserved
loop-line-preserved g c =
    let done = c.loop-line.invariant.done in
    let long = length-append c.in-Some.line.now (10 ∷ c.in-Some.left.now) in record {
      done = piece-step done.0 c.in-Some.line.now c.in-Some.left.now c.loop-line.rest.now c.args.piece.now done.1 c.in-Some.ensures done.2
          c.in_ok-end_line.ensures.cut;
      lines = omega (arith, ap length c.in-Some.ensures.0, long, c.in_ok-end_line.ensures.lines, c.loop-line.invariant.lines);
      small = omega (arith, ap length c.in-Some.ensures.0, long, c.loop-line.invariant.small);
    }

pub keep-requires : goal.keep-requires
keep-requires g c =
    omega (arith, ap (λ (k : CutterParts). k.lines) c.self.view_is, c.loop-line.invariant.lines, c.requires.fits)

pub returns-in_err-send-clause-fault : goal.returns-in_err-send-clause-fault
returns-in_err-send-clause-fault g c =
    let Output = g.C.TextCommand.Output c.args.command.now in
    let done = c.loop-line.invariant.done in
    IfErr-weaker c.from_residual-in_err-send.result (λ error. error ≡ c.in_err-send.field-0.0) _ (λ error is. rw is
    (λ before bytes cut. rw (done.1, ← append_assoc bytes done.0 c.loop-line.rest.now)
    (cut-unsendable c.loop-line.rest.now
    (subst (λ (k : CutterParts). IsLinesCut Output before (bytes ++ done.0) k c.loop-line.sink) (sym c.self.view_is)
    (done.2 before bytes cut)) c.in_err-send.ensures.cut))) (search rules)

pub returns-clause-cut : goal.returns-clause-cut
returns-clause-cut g c =
    let Output = g.C.TextCommand.Output c.args.command.now in
    let done = c.loop-line.invariant.done in
    let next = cutter_of c.send.new.self c.self.inside.partial.items c.self.inside.lines in
    let plain : HasNoFeed c.loop-line.rest.now = search rules in
    IfOk-weaker c.keep.result _ _
    (λ _ kept before bytes cut. rw (done.1, ← append_assoc bytes done.0 c.loop-line.rest.now)
    (cut-kept c.lines_are_cut.ensures c.loop-line.rest.now c.keep.new.self
    (cut-emptied next
    (subst (λ (k : CutterParts). IsLinesCut Output before (bytes ++ done.0) k c.loop-line.sink) (sym c.self.view_is)
    (done.2 before bytes cut)) c.in_ok-send.ensures.sent refl refl) plain kept))
    c.keep.ensures.kept

pub returns-clause-fault : goal.returns-clause-fault
returns-clause-fault g c =
    let Output = g.C.TextCommand.Output c.args.command.now in
    let done = c.loop-line.invariant.done in
    let next = cutter_of c.send.new.self c.self.inside.partial.items c.self.inside.lines in
    let plain : HasNoFeed c.loop-line.rest.now = search rules in
    IfErr-weaker c.keep.result _ _
    (λ fault why before bytes cut. rw (done.1, ← append_assoc bytes done.0 c.loop-line.rest.now)
    (keep-stopped c.lines_are_cut.ensures c.loop-line.rest.now fault c.in_ok-send.ensures.sent.is_empty plain
    (omega (arith, c.loop-line.invariant.small, c.requires.small)) why
    (cut-emptied next
    (subst (λ (k : CutterParts). IsLinesCut Output before (bytes ++ done.0) k c.loop-line.sink) (sym c.self.view_is)
    (done.2 before bytes cut)) c.in_ok-send.ensures.sent refl refl)))
    c.keep.ensures.fault

pub returns-clause-sent : goal.returns-clause-sent
returns-clause-sent g c =
    IfOk-weaker c.keep.result _ _
    (λ _ kept. ap (λ (w : WriterParts). w.out) kept.is_put ∙ c.in_ok-send.ensures.sent.is_empty)
    c.keep.ensures.kept
