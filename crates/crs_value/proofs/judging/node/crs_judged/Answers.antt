use Rattle.std.proofs.Common.{refl, sym}
use Rattle.crs_value.specs.inner.Arguments.{item_at}
use Rattle.crs_value.proofs.checked.OwnLemmas.{own-crs}
use Rattle.crs_value.proofs.found.ArgumentLemmas.{holds_at}
use Rattle.crs_value.proofs.walk.JudgedLemmas.{inside-least, leaf-judged, shaped-by, walked-all, with-fault, with-whole}
use Rattle.crs_value.proofs.walk.LayoutLemmas.{laid-arguments}
use Rattle.crs_value.proofs.walk.RestLemmas.{passes-whole}
use Rattle.crs_value.proofs.judging.node.crs_judged.Goals as goal

pub returns-in_default : goal.returns-in_default
returns-in_default g c = leaf-judged _ _ _ c.requires.of (sym c.in_default.ensures)

pub laid-requires-clause-holds : goal.laid-requires-clause-holds
laid-requires-clause-holds g c = holds_at _ _ _ c.arg.ensures

pub returns-in_default-laid : goal.returns-in_default-laid
returns-in_default-laid g c =
    with-fault _ _ _ _ _ (walked-all _ _ _ _ _ _ _ _ _ _ c.requires.of (sym c.in-Some.ensures) c.arg.ensures c.requires.slots refl c.in_default-laid.ensures)

pub passes_at_once-requires-clause-shaped : goal.passes_at_once-requires-clause-shaped
passes_at_once-requires-clause-shaped g c =
    shaped-by c.walk_finds_the_fault.ensures.none _ _ _ _
    (walked-all _ _ _ _ _ _ _ _ _ _ c.requires.of (sym c.in-Some.ensures) c.arg.ensures c.requires.slots refl c.in-Some-laid.ensures.0)

pub passes_at_once-requires-clause-laid : goal.passes_at_once-requires-clause-laid
passes_at_once-requires-clause-laid g c = laid-arguments _ _ _ _ _ c.arg.ensures c.in-Some-laid.ensures.1.0

pub bad_dynamic-own-requires-clause-shaped : goal.bad_dynamic-own-requires-clause-shaped
bad_dynamic-own-requires-clause-shaped g c =
    shaped-by c.walk_finds_the_fault.ensures.none _ _ _ _
    (walked-all _ _ _ _ _ _ _ _ _ _ c.requires.of (sym c.in-Some.ensures) c.arg.ensures c.requires.slots refl c.in-Some-laid.ensures.0)

pub returns-then-passes_at_once : goal.returns-then-passes_at_once
returns-then-passes_at_once g c =
    let walked = walked-all _ _ _ _ _ _ _ _ _ _ c.requires.of (sym c.in-Some.ensures) c.arg.ensures c.requires.slots refl c.in-Some-laid.ensures.0 in
    with-whole c.args.class (item_at c.args.items.now c.args.id) _ _ _ _ _ (sym c.in-Some.ensures) walked
    (passes-whole c.args.class (item_at c.args.items.now c.args.id) _ _ _ c.requires.system (c.passes_at_once.ensures c.if-passes_at_once.true) (inside-least c.args.class (item_at c.args.items.now c.args.id) _ walked) c.bad_dynamic-own.ensures c.lesser.ensures) c.join.ensures

pub whole_crs-requires-clause-shaped : goal.whole_crs-requires-clause-shaped
whole_crs-requires-clause-shaped g c =
    shaped-by c.walk_finds_the_fault.ensures.none _ _ _ _
    (walked-all _ _ _ _ _ _ _ _ _ _ c.requires.of (sym c.in-Some.ensures) c.arg.ensures c.requires.slots refl c.in-Some-laid.ensures.0)

pub whole_crs-requires-clause-inside : goal.whole_crs-requires-clause-inside
whole_crs-requires-clause-inside g c =
    inside-least _ _ _ (walked-all _ _ _ _ _ _ _ _ _ _ c.requires.of (sym c.in-Some.ensures) c.arg.ensures c.requires.slots refl c.in-Some-laid.ensures.0)

pub returns : goal.returns
returns g c =
    with-whole c.args.class (item_at c.args.items.now c.args.id) _ _ _ _ _ (sym c.in-Some.ensures)
    (walked-all _ _ _ _ _ _ _ _ _ _ c.requires.of (sym c.in-Some.ensures) c.arg.ensures c.requires.slots refl c.in-Some-laid.ensures.0)
    (own-crs c.args.class (item_at c.args.items.now c.args.id) _ c.requires.system c.whole_crs.ensures) c.join-2.ensures
