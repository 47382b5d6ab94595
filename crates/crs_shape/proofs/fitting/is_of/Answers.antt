use Rattle.std.proofs.Common.{◌∙◌, ap}
use Rattle.crs_shape.specs.inner.KeywordTable.{classes_by, is_among}
use Rattle.crs_shape.proofs.naming.ItemLemmas.{is_of-node}
use Rattle.crs_shape.proofs.fitting.is_of.Goals as goal

pub returns-in-Node : goal.returns-in-Node
returns-in-Node c = c.has_keyword.ensures ∙ ap (λ k. is_among c.args.class (classes_by k)) c.keyword.ensures ∙ is_of-node c.keywords_are_spelled.ensures _ _ c.in-Node.ensures
