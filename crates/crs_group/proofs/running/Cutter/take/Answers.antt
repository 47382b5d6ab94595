use Rattle.std.proofs.Common.{◌++◌, ◌∷◌, [], ℕ, List, ap, append-nil, arith, length, length-append, refl, rules}
use Rattle.std.proofs.lemmas.Result.{IfErr-weaker, IfOk-weaker}
use Rattle.crs_streams.specs.inner.Prelude.{HasNoFeed}
use Rattle.crs_group.specs.inner.GroupReading.{IsCutFault, IsCutTo}
use Rattle.crs_group.proofs.FaultLemmas.{handed-on}
use Rattle.crs_group.proofs.GroupCutLemmas.{keep-fault, piece-end-fault, piece-fault, piece-kept, piece-step}
use Rattle.crs_group.proofs.running.Cutter.take.Goals as goal

pub loop-line-init : goal.loop-line-init
loop-line-init g c = record {
  done = ([], refl, λ bytes cut. rw append-nil cut);
  lines = omega arith;
  small = omega arith;
  level = refl;
}

pub returns-in_err-end_line-clause-fault : goal.returns-in_err-end_line-clause-fault
returns-in_err-end_line-clause-fault g c =
    let Form = g.A.Adding.Form c.args.way.now.adding in
    let Share = g.A.Adding.Share c.args.way.now.adding in
    let named = c.args.way.now.named in
    let done = c.loop-line.invariant.done in
    handed-on c.from_residual.result c.in_err-end_line.field-0.0
    (λ fault. (bytes : List ℕ) → IsCutTo Form Share named bytes c.args.self.now → IsCutFault (bytes ++ c.args.piece.now) fault) (search rules)
    (piece-fault c.lines_are_cut.ensures Form Share named done.0 c.in-Some.line.now c.in-Some.left.now c.loop-line.rest.now c.args.piece.now
    c.args.self.now c.loop-line.self c.in_err-end_line.field-0.0 done.1 c.in-Some.ensures done.2 c.in_err-end_line.ensures.fault
    c.requires.small)

pub loop-line-preserved : goal.loop-line-preserved
loop-line-preserved g c =
    let done = c.loop-line.invariant.done in record {
      done = piece-step c.lines_are_cut.ensures (g.A.Adding.Form c.args.way.now.adding) (g.A.Adding.Share c.args.way.now.adding) c.args.way.now.named done.0 c.in-Some.line.now c.in-Some.left.now c.loop-line.rest.now c.args.piece.now
          c.args.self.now c.loop-line.self c.end_line.new.self done.1 c.in-Some.ensures done.2
          c.in_ok-end_line.ensures.cut;
      lines = omega (
        arith,
        ap length c.in-Some.ensures.0,
        length-append c.in-Some.line.now (10 ∷ c.in-Some.left.now),
        c.in_ok-end_line.ensures.lines,
        c.loop-line.invariant.lines,
      );
      small = omega (
        arith,
        ap length c.in-Some.ensures.0,
        length-append c.in-Some.line.now (10 ∷ c.in-Some.left.now),
        c.loop-line.invariant.small,
      );
      level = search rules;
    }

pub returns-clause-cut : goal.returns-clause-cut
returns-clause-cut g c =
    let done = c.loop-line.invariant.done in
    let plain : HasNoFeed c.loop-line.rest.now = search rules in
    IfOk-weaker c.keep.result _ _
    (λ _ kept. piece-kept c.lines_are_cut.ensures (g.A.Adding.Form c.args.way.now.adding) (g.A.Adding.Share c.args.way.now.adding) c.args.way.now.named done.0
    c.loop-line.rest.now c.args.piece.now c.args.self.now c.loop-line.self c.keep.new.self done.1 done.2 plain kept)
    c.keep.ensures.kept

pub returns-clause-fault : goal.returns-clause-fault
returns-clause-fault g c =
    let Form = g.A.Adding.Form c.args.way.now.adding in
    let Share = g.A.Adding.Share c.args.way.now.adding in
    let named = c.args.way.now.named in
    let done = c.loop-line.invariant.done in
    let plain : HasNoFeed c.loop-line.rest.now = search rules in
    IfErr-weaker c.keep.result _ _
    (λ fault why. piece-end-fault c.lines_are_cut.ensures Form Share named done.0 c.loop-line.rest.now c.args.piece.now c.args.self.now c.loop-line.self
    fault done.1 done.2
    (keep-fault c.lines_are_cut.ensures Form Share named c.loop-line.rest.now c.loop-line.self fault plain
    (omega (arith, c.loop-line.invariant.small, c.requires.small)) why))
    c.keep.ensures.fault
