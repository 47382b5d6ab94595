use Rattle.std.proofs.Common.{subst}
use Rattle.crs_value.specs.inner.Arguments.{item_at}
use Rattle.crs_value.specs.inner.WholeNumbers.{IsWhole}
use Rattle.crs_value.proofs.walk.WholeNumberLemmas.{first-whole, same-whole}
use Rattle.crs_value.proofs.reading.node.has_whole.Goals as goal

pub returns-in-Some : goal.returns-in-Some
returns-in-Some c = λ yes.
    let e = same-whole c.in-Some.whole c.args.n yes in
    first-whole _ c.args.class (item_at c.args.items.now c.args.id) c.required-found.result c.args.n c.required-found.ensures.found
    (subst (λ bytes. IsWhole bytes c.args.n) c.raw.ensures (subst (IsWhole c.raw.result.now) e c.in-Some.ensures))

pub returns-in-None : goal.returns-in-None
returns-in-None c = λ yes.
    first-whole _ c.args.class (item_at c.args.items.now c.args.id) c.required-found.result c.args.n c.required-found.ensures.found
    (c.decimal_of.result, (c.decimal_of.ensures, c.is_whole.ensures.0 yes))
