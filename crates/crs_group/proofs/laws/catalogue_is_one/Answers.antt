use Rattle.crs_rules.specs.Rewritten.{IsForm}
use Rattle.crs_writer.specs.inner.Prelude.{IsCanonicalOf}
use Rattle.crs_group.specs.GroupTexts.{ShareWhereSame}
use Rattle.crs_group.specs.UnderRules.{ShareWhereSameUnder}
use Rattle.crs_group.proofs.OneCatalogueLemmas.{IsAnsweredOnce, canonical-are-one, forms-are-one, one-catalogue}
use Rattle.crs_group.proofs.laws.catalogue_is_one.Goals as goal

pub returns : goal.returns
returns c =
    let answered : IsAnsweredOnce = record { refusal = c.one_answer.ensures.refusal; apart = c.one_answer.ensures.apart } in record {
      alone = one-catalogue IsCanonicalOf ShareWhereSame (λ level. canonical-are-one answered level (c.main_theorem.ensures level));
      under = λ rules are. one-catalogue (IsForm rules) (ShareWhereSameUnder rules)
          (λ level. forms-are-one answered rules level (λ text a b. c.accepted_text_has_one_form.ensures.one rules level text a b are));
    }
