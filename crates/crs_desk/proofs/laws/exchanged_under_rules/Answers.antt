use Rattle.std.proofs.Common.{◌∙◌, refl}
use Rattle.crs_rules.specs.Rules.{meaning}
use Rattle.crs_rules.specs.Rewritten.{renamed}
use Rattle.crs_desk.specs.RulesOutput.{turned}
use Rattle.crs_desk.proofs.FormsLemmas.{parts-turned, same-status}
use Rattle.crs_desk.proofs.laws.exchanged_under_rules.Goals as goal

pub returns : goal.returns
returns c how words r level a b sound is-a is-b written status (before, after, are, were, is, ends) =
    let x = renamed (meaning r) a in
    let y = renamed (meaning r) b in
    let is-x = c.renamed_crs_is_sound.ensures r a sound is-a in
    let is-y = c.renamed_crs_is_sound.ensures r b sound is-b in
    let same = c.same_crs_is_equivalence.ensures level in (
      before,
      after,
      is,
      (
        turned before,
        turned after,
        parts-turned words level a b (same.symmetric a b is-a is-b) (same.symmetric b a is-b is-a)
            (c.exchanged_crss_are_told_alike.ensures.ordered words level a b) before are,
        parts-turned words level x y (same.symmetric x y is-x is-y) (same.symmetric y x is-y is-x)
            (c.exchanged_crss_are_told_alike.ensures.ordered words level x y) after were,
        refl,
        ends ∙ same-status after,
      ),
    )
