use Rattle.std.proofs.Common.{[], true, false}
use Rattle.crs_shape.specs.inner.Prelude.{any_of}
use Rattle.crs_value.specs.inner.QuickChecks.{rest_slots}
use Rattle.crs_value.proofs.walk.LayoutLemmas.{laid-parts, walked-as, walked-end}
use Rattle.crs_value.proofs.judging.node.laid.Goals as goal

pub returns-in_err-system : goal.returns-in_err-system
returns-in_err-system g c = rw c.from_residual.ensures (c.in_err-system.ensures.passed (rest_slots (any_of g.T.Part.classes)))

pub returns-in_err-axes : goal.returns-in_err-axes
returns-in_err-axes g c = rw c.from_residual-in_err-axes.ensures (c.in_ok-system.ensures.passed _ false _ (c.in_err-axes.ensures.passed _))

pub returns-in_err-unit : goal.returns-in_err-unit
returns-in_err-unit g c = rw c.from_residual-in_err-unit.ensures (c.in_ok-system.ensures.passed _ false _ (c.in_ok-axes.ensures.passed _ false _ (c.in_err-unit.ensures.passed _)))

pub returns-in_err-tail : goal.returns-in_err-tail
returns-in_err-tail g c = rw c.from_residual-in_err-tail.ensures (c.in_ok-system.ensures.passed _ false _ (c.in_ok-axes.ensures.passed _ false _ (c.in_ok-unit.ensures.passed _ false _ (c.in_err-tail.ensures.passed _))))

pub returns-in_err-end : goal.returns-in_err-end
returns-in_err-end g c = rw c.from_residual-in_err-end.ensures (c.in_ok-system.ensures.passed _ false _ (c.in_ok-axes.ensures.passed _ false _ (c.in_ok-unit.ensures.passed _ false _ (c.in_ok-tail.ensures.passed _ false _ (c.in_err-end.ensures.passed _)))))

pub returns-then-not-ends : goal.returns-then-not-ends
returns-then-not-ends g c =
    c.in_ok-system.ensures.passed _ false _
    (c.in_ok-axes.ensures.passed _ false _
    (c.in_ok-unit.ensures.passed _ false _
    (c.in_ok-tail.ensures.passed _ false _
    (c.in_ok-end.ensures.passed [] false _
    (walked-as _ _ _ [] _ _ _ _ false c.if-not-ends.true c.ends.ensures)))))

pub returns : goal.returns
returns g c =
    let tree = c.args.parent.items.now in (
      c.in_ok-system.ensures.passed _ true _
          (c.in_ok-axes.ensures.passed _ true _
          (c.in_ok-unit.ensures.passed _ true _
          (c.in_ok-tail.ensures.passed _ true _ (c.in_ok-end.ensures.passed [] true _ (walked-as _ _ _ [] _ _ _ _ true c.if-not-ends.false c.ends.ensures))))),
      (
        laid-parts tree c.args.parent.class g.H.Slots.slots (any_of g.T.Part.classes) c.args.at c.in_ok-end.end _ c.requires.head c.requires.tail c.in_ok-system.ensures.leaves
            c.in_ok-axes.ensures.leaves c.in_ok-unit.ensures.leaves c.in_ok-tail.ensures.leaves c.in_ok-end.ensures.leaves
            (walked-end tree c.args.parent.class c.args.parent.close c.in_ok-end.end _ _ c.ends.result c.if-not-ends.false c.ends.ensures),
        record { system = c.in_ok-system.ensures.holds; axes = c.in_ok-axes.ensures.holds; unit = c.in_ok-unit.ensures.holds; tail = c.in_ok-tail.ensures.holds },
      ),
    )
