use Rattle.std.proofs.Common.{sym, ◌∙◌}
use Rattle.crs_value.proofs.walk.LayoutLemmas.{only-here}
use Rattle.crs_value.proofs.judging.quick_checks.is_only.Goals as goal

pub returns : goal.returns
returns c = λ yes.
    only-here _ c.args.parent _ _ _ _ c.requires.has c.next-behind.ensures (sym c.stands_as.ensures ∙ c.if-not-stands_as.false) (c.same_place.ensures yes) c.requires.none
