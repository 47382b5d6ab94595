use Rattle.std.proofs.Common.{sym, ◌∙◌}
use Rattle.crs_value.specs.inner.Arguments.{item_at}
use Rattle.crs_value.proofs.walk.JudgedLemmas.{leaf-judged, named-of, single-is, single-not}
use Rattle.crs_value.proofs.judging.node.part.Goals as goal

pub returns-then-not-stands_as : goal.returns-then-not-stands_as
returns-then-not-stands_as g c = single-not c.args.parent c.args.class (item_at c.args.items.now c.args.id) _ (sym c.stands_as.ensures ∙ c.if-not-stands_as.true)

pub node_judged-requires-clause-of : goal.node_judged-requires-clause-of
node_judged-requires-clause-of g c = named-of c.walk_finds_the_fault.ensures.named c.args.parent c.args.class (item_at c.args.items.now c.args.id) (sym c.stands_as.ensures ∙ c.if-not-stands_as.false)

pub node_judged-requires-clause-close : goal.node_judged-requires-clause-close
node_judged-requires-clause-close g c = sym c.in-Some.ensures

pub returns-in-None : goal.returns-in-None
returns-in-None g c =
    let is = sym c.stands_as.ensures ∙ c.if-not-stands_as.false in
    single-is _ _ _ _ _ _ is
    (leaf-judged _ _ _ (named-of c.walk_finds_the_fault.ensures.named c.args.parent c.args.class (item_at c.args.items.now c.args.id) is) (sym c.in-None.ensures))

pub returns-in-Some : goal.returns-in-Some
returns-in-Some g c = single-is _ _ _ _ _ _ (sym c.stands_as.ensures ∙ c.if-not-stands_as.false) c.node_judged.ensures
