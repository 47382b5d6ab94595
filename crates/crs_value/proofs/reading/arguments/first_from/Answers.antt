use Rattle.std.proofs.Common.{sym, ◌∙◌, ap}
use Rattle.crs_value.specs.Reading.{those}
use Rattle.crs_value.specs.inner.Arguments.{ahead}
use Rattle.crs_value.proofs.reading.arguments.first_from.Goals as goal

pub returns-then-same_place : goal.returns-then-same_place
returns-then-same_place c =
    sym c.loop-at.invariant.same ∙ ap (λ o. those c.args.parent c.args.class (ahead c.args.items.now o)) (c.in-Some.is ∙ c.same_place.ensures c.if-same_place.true) ∙ c.requires.none
