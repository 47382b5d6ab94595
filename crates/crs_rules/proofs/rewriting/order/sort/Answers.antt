use Rattle.std.proofs.Common.{◌≡◌, ◌-◌, suc, ap, arith, length}
use Rattle.crs_rules.proofs.SortLemmas.{sorts-on, sorts-start, sorts-within}
use Rattle.crs_rules.proofs.rewriting.order.sort.Goals as goal

pub loop-from-init : goal.loop-from-init
loop-from-init c = λ text are. sorts-start text _ _ _ are (ap length c.as_slice-from.ensures)

pub sink-requires-clause-texts : goal.sink-requires-clause-texts
sink-requires-clause-texts c =
    let (text, are) = c.requires in (text, (c.loop-from.invariant text are).texts_are)

pub sink-requires-clause-from : goal.sink-requires-clause-from
sink-requires-clause-from c =
    let (text, are) = c.requires in
    sorts-within text _ (c.loop-from.invariant text are) (omega (arith, c.loop-from-test.true))

pub loop-from-preserved : goal.loop-from-preserved
loop-from-preserved c =
    let l = c.loop-from in
    let before : l.from ≡ suc (l.from - 1) = omega (arith, c.loop-from-test.true) in
    λ text are. let sorts = l.invariant text are in
    sorts-on text _ sorts before _ _ (c.sink.ensures.axes text sorts.texts_are) (c.sink.ensures.texts text sorts.texts_are)

pub returns : goal.returns
returns c =
    let none : c.loop-from.from ≡ 0 = omega (arith, c.loop-from-test.false) in
    λ text are. rw none at (c.loop-from.invariant text are).sorted
