use Rattle.std.proofs.Common.{◌≡◌, ◌∙◌, ◌++◌, ap, append-nil}
use Rattle.crs_desk.specs.RulesOutput.{ArePartsThatDiffer, marked, texts_in, told_parts}
use Rattle.crs_desk.proofs.FormsLemmas.{nothing-marked, told-alone}
use Rattle.crs_desk.proofs.laws.explained_under_rules.Goals as goal

pub returns-clause-unmarked : goal.returns-clause-unmarked
returns-clause-unmarked c how words r level a b written status (before, after, are, were, is, ends) =
    (told_parts how after, marked how (texts_in after) (texts_in before), is, rw ends (told-alone how words level _ _ after were))

pub returns-clause-marks : goal.returns-clause-marks
returns-clause-marks c how words level a b is-a is-b written status (before, after, are, were, is, ends) =
    let still : ArePartsThatDiffer words level a b after =
    rw (c.no_rules_rewrite_nothing.ensures a, c.no_rules_rewrite_nothing.ensures b) at were in
    let none = nothing-marked how words level a b (c.the_same_parts_are_told.ensures words level a b is-a is-b) before after are still in
    let whole : written ≡ told_parts how after = is ∙ ap (λ rest. told_parts how after ++ rest) none ∙ append-nil (told_parts how after) in
    rw (whole, ends) (told-alone how words level a b after still)
