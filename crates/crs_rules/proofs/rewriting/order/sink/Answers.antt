use Rattle.std.proofs.Common.{◌+◌, ◌-◌, ◌<◌, arith, length, refl}
use Rattle.crs_rules.proofs.SortLemmas.{sinks-end, sinks-next, sinks-on}
use Rattle.crs_rules.proofs.rewriting.order.sink.Goals as goal

pub loop-axes-init : goal.loop-axes-init
loop-axes-init c = λ text are. record { long = refl; texts_are = are; sunk = refl }

pub exchange-requires-clause-texts : goal.exchange-requires-clause-texts
exchange-requires-clause-texts c =
    let (text, are) = c.requires.texts in (text, (c.loop-axes.invariant text are).texts_are)

pub exchange-requires-clause-at : goal.exchange-requires-clause-at
exchange-requires-clause-at c =
    let (text, are) = c.requires.texts in
    sinks-next text (c.loop-axes.invariant text are) (rw c.as_slice.ensures.value at (c.loop-axes-test.ensures.yes refl))

pub loop-axes-smaller : goal.loop-axes-smaller
loop-axes-smaller c =
    let l = c.loop-axes in
    let (text, are) = c.requires.texts in
    let next : l.at + 1 < length l.axes =
    sinks-next text (l.invariant text are) (rw c.as_slice.ensures.value at (c.loop-axes-test.ensures.yes refl)) in
    let less : length c.args.axes.now - (l.at + 1) < length c.args.axes.now - l.at = omega (arith, (l.invariant text are).long) in less

pub loop-axes-preserved : goal.loop-axes-preserved
loop-axes-preserved c =
    λ text are. let sinks = c.loop-axes.invariant text are in
    sinks-on text sinks (rw c.as_slice.ensures.value at (c.loop-axes-test.ensures.yes refl))
    _ _ c.exchange.ensures.axes (c.exchange.ensures.texts text sinks.texts_are)

pub returns-clause-axes : goal.returns-clause-axes
returns-clause-axes c =
    λ text are. sinks-end text (c.loop-axes.invariant text are) (rw c.as_slice.ensures.value at (c.loop-axes-test.ensures.no refl))

pub returns-clause-texts : goal.returns-clause-texts
returns-clause-texts c = λ text are. (c.loop-axes.invariant text are).texts_are
