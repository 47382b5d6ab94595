use Rattle.std.proofs.Common.{◌∙◌, ap, sym}
use Rattle.crs_shape.specs.inner.KeywordTable.{classes_by}
use Rattle.crs_shape.specs.Shape.{has_class}
use Rattle.crs_shape.proofs.naming.ItemLemmas.{is_known-node}
use Rattle.crs_shape.proofs.fitting.is_known.Goals as goal

pub returns : goal.returns
returns c = c.known_by.ensures ∙ ap (λ k. has_class (classes_by k)) c.keyword.ensures ∙ is_known-node c.keywords_are_spelled.ensures _ (sym c.requires.node)
