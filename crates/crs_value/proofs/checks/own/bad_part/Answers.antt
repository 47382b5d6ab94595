use Rattle.std.proofs.Common.{Some, None, refl}
use Rattle.crs_value.specs.Checks.{BadComponent}
use Rattle.crs_value.specs.inner.Cursor.{item}
use Rattle.crs_value.specs.inner.Arguments.{item_at}
use Rattle.crs_value.proofs.found.ArgumentLemmas.{first-shaped}
use Rattle.crs_value.proofs.checked.CheckLemmas.{none-of, only-of}
use Rattle.crs_value.proofs.checked.ComponentLemmas.{part-bad, part-fine}
use Rattle.crs_value.proofs.checks.own.bad_part.Goals as goal

pub returns-in_err-part : goal.returns-in_err-part
returns-in_err-part c = rw c.from_residual.ensures (none-of _ _ c.in_err-part.ensures)

pub required-cs-requires-clause-shaped : goal.required-cs-requires-clause-shaped
required-cs-requires-clause-shaped c = first-shaped _ _ _ _ c.in_ok-part.part c.requires.shaped c.in_ok-part.ensures

pub returns-then-is_not_horizontal : goal.returns-then-is_not_horizontal
returns-then-is_not_horizontal c =
    let node = c.args.node.now in
    only-of c.slots_count.ensures.most (BadComponent c.args.class) node.items.now (item node) _ _ c.in_ok-part.part (Some c.refusal_at.result) c.requires.once c.requires.shaped c.in_ok-part.ensures
    (part-bad node.items.now (item_at node.items.now c.in_ok-part.part) c.args.class c.required-cs.result _ c.required-cs.ensures.found c.refusal_at.ensures
    (c.if-is_not_horizontal.ensures.0 refl))

pub returns-else-is_not_horizontal : goal.returns-else-is_not_horizontal
returns-else-is_not_horizontal c =
    let node = c.args.node.now in
    only-of c.slots_count.ensures.most (BadComponent c.args.class) node.items.now (item node) _ _ c.in_ok-part.part None c.requires.once c.requires.shaped c.in_ok-part.ensures
    (part-fine node.items.now (item_at node.items.now c.in_ok-part.part) c.args.class c.required-cs.result c.required-cs.ensures.found
    (λ h. let e = c.is_not_horizontal.ensures.1 h in let f = c.if-is_not_horizontal.false in cc))
