use Rattle.std.proofs.Common.{◌∙◌, ap}
use Rattle.std.specs.List.{find}
use Rattle.crs_shape.specs.inner.KeywordTable.{classes_by, is_root}
use Rattle.crs_shape.proofs.naming.KeywordLemmas.{root_named-table}
use Rattle.crs_shape.proofs.keyword.root_class.Goals as goal

pub returns : goal.returns
returns c = c.root_by.ensures ∙ ap (λ k. find is_root (classes_by k)) c.of.ensures ∙ root_named-table c.keywords_are_spelled.ensures _
