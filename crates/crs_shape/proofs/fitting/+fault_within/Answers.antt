use Rattle.std.proofs.Common.{◌<◌, sym, ◌∙◌, ap, Some, None, subst, List, rules}
use Rattle.std.specs.Option.{option_map}
use Rattle.crs_text.specs.inner.Prelude.{first_of, here, size_of}
use Rattle.crs_shape.specs.Shape.{SlotParts}
use Rattle.crs_shape.proofs.faults.FitLemmas as fit
use Rattle.crs_shape.proofs.faults.FitLemmas.{going_by, no_arguments, argument-less}
use Rattle.crs_shape.proofs.faults.ExpectedLemmas as expected
use Rattle.crs_shape.proofs.faults.ExpectedLemmas.{going_class, going_wrong, going_inside, going_short, answered}
use Rattle.crs_shape.proofs.faults.FaultLemmas.{exact}
use Rattle.crs_shape.proofs.fitting.+fault_within.Goals as goal

pub returns-in_err-close-clause-fault : goal.returns-in_err-close-clause-fault
returns-in_err-close-clause-fault t c =
    ap (option_map (λ f. f.0)) c.from_residual.ensures ∙ no_arguments _ _ c.requires.class (sym c.in_err-close.ensures)

pub returns-in_err-close-clause-expected : goal.returns-in_err-close-clause-expected
returns-in_err-close-clause-expected t c =
    rw c.from_residual.ensures (exact _ _ None (no_arguments _ _ c.requires.class (sym c.in_err-close.ensures)))

pub loop-next-init : goal.loop-next-init
loop-next-init t c =
    let item = first_of (here c.args.items.now c.args.id) in
    let P : List SlotParts → Type 0 = λ slots. fit.Going c.args.items.now c.args.class item c.in_ok-close.close slots c.arg-next.result × expected.Going c.args.items.now c.args.class item slots c.arg-next.result in
    subst P (sym c.row-row.ensures.slots) (
      fit.going_first c.args.items.now _ _ _ _ c.requires.class (sym c.in_ok-close.ensures) c.arg-next.ensures,
      expected.going_first c.args.items.now _ _ _ _ c.requires.class (sym c.in_ok-close.ensures) c.arg-next.ensures,
    )

pub fault_within-requires : goal.fault_within-requires
fault_within-requires t c =
    let going = (rw c.in-Some.is at c.loop-next.invariant).1 in
    let less : size_of (first_of (here c.args.items.now c.in-Some.argument)) < size_of (first_of (here c.args.items.now c.args.id)) =
    argument-less c.args.items.now c.in-Some.argument _ going.has going.less in
    (search rules, (going.has, going_class _ _ _ _ _ going _ _ c.in-Some-step.ensures))

pub returns-in_default-step-clause-fault : goal.returns-in_default-step-clause-fault
returns-in_default-step-clause-fault t c =
    ap Some c.misplaced.ensures
    ∙ going_by _ _ _ _ _ _ None (rw c.in-Some.is at c.loop-next.invariant).0 c.in_default-step.ensures

pub returns-in_default-step-clause-expected : goal.returns-in_default-step-clause-expected
returns-in_default-step-clause-expected t c =
    going_wrong _ _ _ _ _ (rw c.in-Some.is at c.loop-next.invariant).1 _ c.in_default-step.ensures
    (answered c.args.class c.row-row.result.now c.loop-next.walk _ _ _ c.row-row.ensures.slots c.place.ensures c.new-expected.ensures)

pub returns-in-Some-fault_within-clause-fault : goal.returns-in-Some-fault_within-clause-fault
returns-in-Some-fault_within-clause-fault t c =
    rw (sym c.in-Some-fault_within.ensures.fault) at (going_by _ _ _ _ _ _ (Some _) (rw c.in-Some.is at c.loop-next.invariant).0 c.in-Some-step.ensures)

pub returns-in-Some-fault_within-clause-expected : goal.returns-in-Some-fault_within-clause-expected
returns-in-Some-fault_within-clause-expected t c =
    going_inside _ _ _ _ _ (rw c.in-Some.is at c.loop-next.invariant).1 _ _ c.in-Some-step.ensures _ c.in-Some-fault_within.ensures.expected

pub loop-next-preserved : goal.loop-next-preserved
loop-next-preserved t c =
    let going = rw c.in-Some.is at c.loop-next.invariant in (
      fit.going_on _ _ _ _ _ _ _ _ _ going.0 c.in-Some-step.ensures c.in_default-fault_within.ensures.fault c.next-next.ensures,
      expected.going_on _ _ _ _ _ going.1 _ _ c.in-Some-step.ensures _ c.in_default-fault_within.ensures.expected c.next-next.ensures,
    )

pub returns-then-may_end-clause-fault : goal.returns-then-may_end-clause-fault
returns-then-may_end-clause-fault t c =
    rw c.if-may_end.true at (fit.going_end _ _ _ _ _ _ (rw c.in_default.is at c.loop-next.invariant).0 c.may_end.ensures)

pub returns-then-may_end-clause-expected : goal.returns-then-may_end-clause-expected
returns-then-may_end-clause-expected t c =
    expected.going_end _ _ _ _ _ (rw c.in_default.is at c.loop-next.invariant).1 c.may_end.ensures c.if-may_end.true

pub returns-else-may_end-clause-fault : goal.returns-else-may_end-clause-fault
returns-else-may_end-clause-fault t c =
    ap Some c.refusal.ensures
    ∙ (rw c.if-may_end.false at (fit.going_end _ _ _ _ _ _ (rw c.in_default.is at c.loop-next.invariant).0 c.may_end.ensures))

pub returns-else-may_end-clause-expected : goal.returns-else-may_end-clause-expected
returns-else-may_end-clause-expected t c =
    going_short _ _ _ _ _ _ (rw c.in_default.is at c.loop-next.invariant).1 c.may_end.ensures c.if-may_end.false
    (answered c.args.class c.row-row.result.now c.loop-next.walk _ _ _ c.row-row.ensures.slots c.place-else-may_end.ensures c.new-expected-else-may_end.ensures)
