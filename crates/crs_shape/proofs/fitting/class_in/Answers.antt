use Rattle.std.proofs.Common.{◌∙◌, ap}
use Rattle.std.specs.List.{find}
use Rattle.crs_shape.specs.inner.KeywordTable.{classes_by, is_part}
use Rattle.crs_shape.proofs.naming.ItemLemmas.{class_in-node}
use Rattle.crs_shape.proofs.fitting.class_in.Goals as goal

pub returns-in-Node : goal.returns-in-Node
returns-in-Node c = c.class_by.ensures ∙ ap (λ k. find (is_part c.args.parent) (classes_by k)) c.keyword.ensures ∙ class_in-node c.keywords_are_spelled.ensures _ _ c.in-Node.ensures
