use Rattle.std.proofs.Common.{ap, drop, length, length-drop, arith, sym, ◌∙◌}
use Rattle.std.proofs.Math.ListN.{drop_of_length-le}
use Rattle.std.proofs.lemmas.List.{drop-drop}
use Rattle.crs_text.specs.inner.Prelude.{arguments}
use Rattle.crs_value.specs.inner.Prelude.{item_at, those}
use Rattle.crs_writer.proofs.nodes.lookup.nth.Goals as goal

pub loop-step-preserved : goal.loop-step-preserved
loop-step-preserved c =
    let xs = those c.args.parent c.args.class (arguments (item_at c.args.items.now c.args.id)) in
    let left = (rw c.in-Some.is at c.loop-step.invariant).1 in
    (c.later-at.ensures.holds, c.later-at.ensures.all ∙ ap (drop 1) left ∙ drop-drop 1 c.loop-step._step xs)

pub returns-in_default-clause-all : goal.returns-in_default-clause-all
returns-in_default-clause-all c =
    let xs = those c.args.parent c.args.class (arguments (item_at c.args.items.now c.args.id)) in
    let none = (rw c.in_default.is at c.loop-step.invariant).1 in
    sym (drop_of_length-le xs (omega (arith, length-drop c.loop-step._step xs, ap length none)))
