use Rattle.std.proofs.Common.{refl, sym, ◌∙◌}
use Rattle.crs_rules.specs.Rewritten.{IsForm}
use Rattle.crs_group.proofs.CatalogueLemmas.{blank-added, is-black, lines-added, lines-result, put-result, refuse-result, rules-forms}
use Rattle.crs_group.specs.UnderRules.{ShareWhereSameUnder}
use Rattle.crs_group.specs.declared.placed.Placed.TheVariants.{Blank}
use Rattle.crs_group.proofs.catalogue.Catalogue.add_under.Goals as goal

pub returns-then-is_blank-clause-catalogue : goal.returns-then-is_blank-clause-catalogue
returns-then-is_blank-clause-catalogue c placed whole =
    blank-added (IsForm c.args.rules.now) (ShareWhereSameUnder c.args.rules.now)
    (rules-forms c.args.rules.now (λ level text a b. c.accepted_text_has_one_form.ensures.one c.args.rules.now level text a b c.rules_are_sound.ensures))
    placed c.args.self.now whole c.args.line c.args.text.now (sym c.is_blank.ensures ∙ c.if-is_blank.true)

pub returns-in-Ok-clause-catalogue : goal.returns-in-Ok-clause-catalogue
returns-in-Ok-clause-catalogue c =
    put-result (IsForm c.args.rules.now) (ShareWhereSameUnder c.args.rules.now)
    (rules-forms c.args.rules.now (λ level text a b. c.accepted_text_has_one_form.ensures.one c.args.rules.now level text a b c.rules_are_sound.ensures))
    c.args.self.now c.put.new.self c.args.self.now.level refl c.args.line c.args.text.now c.in-Ok.form c.put.result
    (is-black c.args.text.now c.is_blank.result c.if-is_blank.false c.is_blank.ensures)
    c.in-Ok.ensures.answer c.in-Ok.ensures.level c.put.ensures.groups c.put.ensures.level c.put.ensures.refused

pub returns-in-Err-clause-catalogue : goal.returns-in-Err-clause-catalogue
returns-in-Err-clause-catalogue c =
    refuse-result (IsForm c.args.rules.now) (ShareWhereSameUnder c.args.rules.now)
    (rules-forms c.args.rules.now (λ level text a b. c.accepted_text_has_one_form.ensures.one c.args.rules.now level text a b c.rules_are_sound.ensures))
    c.args.self.now c.refuse.new.self c.args.line c.args.text.now c.in-Err.fault c.refuse.result
    (is-black c.args.text.now c.is_blank.result c.if-is_blank.false c.is_blank.ensures)
    c.in-Err.ensures.answer c.refuse.ensures.refused c.refuse.ensures.level c.refuse.ensures.groups

pub returns-then-is_blank-clause-lines : goal.returns-then-is_blank-clause-lines
returns-then-is_blank-clause-lines c =
    lines-added (IsForm c.args.rules.now) (ShareWhereSameUnder c.args.rules.now) c.args.self.now c.args.self.now c.args.line
    c.args.text.now Blank (returns-then-is_blank-clause-catalogue c)

pub returns-in-Ok-clause-lines : goal.returns-in-Ok-clause-lines
returns-in-Ok-clause-lines c =
    lines-result (IsForm c.args.rules.now) (ShareWhereSameUnder c.args.rules.now) c.args.self.now c.put.new.self c.args.line
    c.args.text.now c.put.result (returns-in-Ok-clause-catalogue c)

pub returns-in-Err-clause-lines : goal.returns-in-Err-clause-lines
returns-in-Err-clause-lines c =
    lines-result (IsForm c.args.rules.now) (ShareWhereSameUnder c.args.rules.now) c.args.self.now c.refuse.new.self c.args.line
    c.args.text.now c.refuse.result (returns-in-Err-clause-catalogue c)
