use Rattle.crs_rules.proofs.TextLemmas.{texts-of-axes}
use Rattle.crs_rules.proofs.NoRulesLemmas.{forms-are-canonical}
use Rattle.crs_rules.proofs.laws.no_rules_give_canonical_texts.Goals as goal

pub returns : goal.returns
returns c = λ level text bytes.
    forms-are-canonical level (c.main_theorem.ensures level) (c.answers_are_equal_where_same.ensures.own level)
    (texts-of-axes c.axes_are_canonical.ensures) text bytes
