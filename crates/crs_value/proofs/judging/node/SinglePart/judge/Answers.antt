use Rattle.std.proofs.Common.{None, Some, [], ◌∷◌, sym, ◌∙◌, subst}
use Rattle.crs_shape.specs.declared.class.Class.{Class}
use Rattle.crs_value.specs.inner.ReadOnce.{HasSystem}
use Rattle.crs_value.specs.inner.Judged.{Answers}
use Rattle.crs_value.specs.inner.Arguments.{item_at}
use Rattle.crs_value.proofs.walk.JudgedLemmas.{named-of, single-is, single-not}
use Rattle.crs_value.proofs.judging.node.SinglePart.judge.Goals as goal

pub returns-then-not-stands_as : goal.returns-then-not-stands_as
returns-then-not-stands_as g c =
    let item = item_at c.args.items.now c.args.id in
    let P : Class → Type 0 = λ d. Answers c.args.parent (d ∷ []) item c.args.found.now None c.args.found.now in
    subst P c.class_at-class.ensures (single-not c.args.parent c.class_at-class.result item _ (sym c.stands_as.ensures ∙ c.if-not-stands_as.true))

pub single_judged-requires-clause-of : goal.single_judged-requires-clause-of
single_judged-requires-clause-of g c =
    named-of c.walk_finds_the_fault.ensures.named c.args.parent c.class_at-class.result (item_at c.args.items.now c.args.id) (sym c.stands_as.ensures ∙ c.if-not-stands_as.false)

pub single_judged-requires-clause-system : goal.single_judged-requires-clause-system
single_judged-requires-clause-system g c = subst HasSystem (sym c.class_at-class.ensures) c.requires.fits.1

pub returns : goal.returns
returns g c =
    let item = item_at c.args.items.now c.args.id in
    let P : Class → Type 0 = λ d. Answers c.args.parent (d ∷ []) item c.args.found.now (Some c.single_judged.result) c.single_judged.new.found in
    subst P c.class_at-class.ensures (single-is c.args.parent c.class_at-class.result item _ _ _ (sym c.stands_as.ensures ∙ c.if-not-stands_as.false) c.single_judged.ensures)
