use Rattle.std.proofs.Common.{sym, ◌∙◌, ap, None}
use Rattle.std.proofs.lemmas.Bool.{not-true, not-false}
use denote.Enum.Bare.{sameb}
use Rattle.crs_text.specs.contracts.items.ItemKind as kinds
use Rattle.crs_text.specs.inner.Prelude.{first_of, here}
use Rattle.crs_shape.specs.Shape.{is_class}
use Rattle.crs_shape.proofs.naming.SoughtLemmas.{other_kind, is_node, node_named, other_keyword, own_keyword}
use Rattle.crs_shape.proofs.seeking.Sought.is.Goals as goal

pub returns-then-ne : goal.returns-then-ne
returns-then-ne c =
    rw (← c.self.view_is) (other_kind c.keywords_are_spelled.ensures _ _ _ (first_of (here c.args.items.now c.args.id)) c.self.invariant.1
    (ap (λ k. sameb kinds.the_type k c.self.inside.kind) (sym c.kind.ensures) ∙ not-true _ (sym c.ne.ensures ∙ c.if-ne.true)))

pub returns-in_default : goal.returns-in_default
returns-in_default c =
    rw (← c.self.view_is) (node_named c.keywords_are_spelled.ensures _ _ (first_of (here c.args.items.now c.args.id)) None
    (is_node _ _ _ c.kind.ensures (not-false _ (sym c.ne.ensures ∙ c.if-ne.false)) (not-false _ (sym c.ne-2.ensures ∙ c.if-ne-2.false)))
    c.in_default.ensures)

pub returns-then-not-has : goal.returns-then-not-has
returns-then-not-has c =
    rw (← c.self.view_is) (other_keyword c.keywords_are_spelled.ensures _ _ (first_of (here c.args.items.now c.args.id)) c.in-Some.keyword
    (is_node _ _ _ c.kind.ensures (not-false _ (sym c.ne.ensures ∙ c.if-ne.false)) (not-false _ (sym c.ne-2.ensures ∙ c.if-ne-2.false)))
    c.in-Some.ensures (rw (← c.self.invariant.0) (sym c.has.ensures ∙ c.if-not-has.true)))

pub returns-then-is_clear : goal.returns-then-is_clear
returns-then-is_clear c =
    rw (← c.self.view_is) (own_keyword c.keywords_are_spelled.ensures _ _ (first_of (here c.args.items.now c.args.id)) c.in-Some.keyword
    (is_node _ _ _ c.kind.ensures (not-false _ (sym c.ne.ensures ∙ c.if-ne.false)) (not-false _ (sym c.ne-2.ensures ∙ c.if-ne-2.false)))
    c.in-Some.ensures (rw (← c.self.invariant.0) (sym c.has.ensures ∙ c.if-not-has.false)) (c.is_clear.ensures c.if-is_clear.true))

pub returns : goal.returns
returns c =
    rw (← c.self.view_is) (c.is_class.ensures ∙ ap (is_class c.self.inside.class) c.class_by.ensures
    ∙ node_named c.keywords_are_spelled.ensures _ _ (first_of (here c.args.items.now c.args.id)) _
    (is_node _ _ _ c.kind.ensures (not-false _ (sym c.ne.ensures ∙ c.if-ne.false)) (not-false _ (sym c.ne-2.ensures ∙ c.if-ne-2.false)))
    c.in-Some.ensures)
