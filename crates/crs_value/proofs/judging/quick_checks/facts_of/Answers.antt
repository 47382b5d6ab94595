use Rattle.crs_value.specs.inner.Arguments.{item_at}
use Rattle.crs_value.proofs.walk.LayoutLemmas.{axis-has}
use Rattle.crs_value.proofs.judging.quick_checks.facts_of.Goals as goal

pub returns : goal.returns
returns c =
    axis-has c.slots_count.ensures.most c.args.items.now (item_at c.args.items.now c.args.axis) c.in_ok-word.word _ c.requires.shaped c.in_ok-word.ensures
    (rw c.raw.ensures at c.in_ok-direction.ensures) c.later.ensures c.later-2.ensures
