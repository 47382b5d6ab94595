use Rattle.crs_explain.specs.Differing.{difference_line, part_pieces}
use Rattle.crs_explain.proofs.TellingLemmas.{line-has-bytes, ordered-where-same, told-where-same, where-same}
use Rattle.crs_explain.proofs.laws.nothing_is_told_where_same.Goals as goal

pub returns-clause-texts : goal.returns-clause-texts
returns-clause-texts c level a b is-a is-b =
    where-same level (c.parameters_that_differ_are_told.ensures level) a b is-a is-b _
    (λ none. (c.no_part_differs_where_same.ensures.none level a b).0 (c.first_difference_is_first_part.ensures.none level a b none))
    (λ one further differ. c.no_part_differs_where_same.ensures.some level a b is-a is-b one.path
    (c.first_difference_is_first_part.ensures.some level a b one further differ))

pub returns-clause-ordered : goal.returns-clause-ordered
returns-clause-ordered c words level a b is-a is-b =
    ordered-where-same level (c.parameters_that_differ_are_told.ensures level) a b is-a is-b _
    (λ none. (c.no_part_differs_where_same.ensures.none level a b).0 (c.first_difference_is_first_part.ensures.none level a b none))
    (λ one further differ. c.no_part_differs_where_same.ensures.some level a b is-a is-b one.path
    (c.first_difference_is_first_part.ensures.some level a b one further differ)) words

pub returns-clause-lines : goal.returns-clause-lines
returns-clause-lines c level a b is-a is-b text (texts, are, is) =
    told-where-same level (c.parameters_that_differ_are_told.ensures level) a b is-a is-b _
    (λ none. (c.no_part_differs_where_same.ensures.none level a b).0 (c.first_difference_is_first_part.ensures.none level a b none))
    (λ one further differ. c.no_part_differs_where_same.ensures.some level a b is-a is-b one.path
    (c.first_difference_is_first_part.ensures.some level a b one further differ)) difference_line line-has-bytes texts text are is

pub returns-clause-pieces : goal.returns-clause-pieces
returns-clause-pieces c level a b is-a is-b pieces (texts, are, is) =
    told-where-same level (c.parameters_that_differ_are_told.ensures level) a b is-a is-b _
    (λ none. (c.no_part_differs_where_same.ensures.none level a b).0 (c.first_difference_is_first_part.ensures.none level a b none))
    (λ one further differ. c.no_part_differs_where_same.ensures.some level a b is-a is-b one.path
    (c.first_difference_is_first_part.ensures.some level a b one further differ)) part_pieces (λ text others e. absurd (cc)) texts pieces are is
