use Rattle.std.proofs.Common.{◌∙◌, ap}
use Rattle.std.specs.List.{find}
use Rattle.crs_shape.specs.inner.KeywordTable.{classes_by, is_part}
use Rattle.crs_shape.proofs.naming.KeywordLemmas.{class_named-table}
use Rattle.crs_shape.proofs.table.class_of.Goals as goal

pub returns : goal.returns
returns c =
    c.class_by.ensures ∙ ap (λ k. find (is_part c.args.parent) (classes_by k)) c.of.ensures ∙ class_named-table c.keywords_are_spelled.ensures _ _
