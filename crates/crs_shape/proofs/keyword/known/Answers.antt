use Rattle.std.proofs.Common.{◌∙◌, ap}
use Rattle.crs_shape.specs.inner.KeywordTable.{classes_by}
use Rattle.crs_shape.specs.Shape.{has_class}
use Rattle.crs_shape.proofs.naming.KeywordLemmas.{is_known-table}
use Rattle.crs_shape.proofs.keyword.known.Goals as goal

pub returns : goal.returns
returns c = c.known_by.ensures ∙ ap (λ k. has_class (classes_by k)) c.of.ensures ∙ is_known-table c.keywords_are_spelled.ensures _
