use Rattle.std.proofs.Common.{sym, ◌∙◌, ap}
use Rattle.crs_shape.specs.declared.class.Class.TheVariants as class
use Rattle.crs_value.specs.Reading.{those}
use Rattle.crs_value.specs.inner.Arguments.{ahead}
use Rattle.crs_value.proofs.found.ArgumentLemmas.{has-some}
use Rattle.crs_value.proofs.walk.LayoutLemmas.{noted-end, noted-first, noted-on, noted-shaped, nothing-seen}
use Rattle.crs_value.proofs.judging.quick_checks.axes_until.Goals as goal

pub loop-at-init : goal.loop-at-init
loop-at-init c = noted-first _ _ _ _ _ (nothing-seen c.args.system_type) c.requires.holds

pub returns-then-same_place : goal.returns-then-same_place
returns-then-same_place c =
    noted-end _ _ _ _ _ _ c.loop-at.invariant
    (ap (λ o. those c.args.class class.Axis (ahead c.args.items.now o)) (c.in-Some.is ∙ c.same_place.ensures c.if-same_place.true) ∙ c.requires.none)

pub facts_of-requires-clause-shaped : goal.facts_of-requires-clause-shaped
facts_of-requires-clause-shaped c =
    noted-shaped _ _ _ _ _ _ c.in-Some.axis c.in-Some.is (has-some _ _ _ c.in-Some.is c.loop-at.invariant.holds) (sym c.stands_as.ensures ∙ c.if-not-stands_as.false)
    c.requires.shaped c.loop-at.invariant

pub loop-at-preserved : goal.loop-at-preserved
loop-at-preserved c =
    noted-on _ _ _ _ c.in_ok-facts.facts _ _ _ c.in-Some.axis _ c.in-Some.is (has-some _ _ _ c.in-Some.is c.loop-at.invariant.holds) c.next-at.ensures
    (sym c.stands_as.ensures ∙ c.if-not-stands_as.false) c.in_ok-facts.ensures c.noted-axes.ensures c.loop-at.invariant

pub returns : goal.returns
returns c = noted-end _ _ _ _ _ _ c.loop-at.invariant (ap (λ o. those c.args.class class.Axis (ahead c.args.items.now o)) c.in_default.is)
