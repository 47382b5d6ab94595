use Rattle.std.proofs.Common.{◌∙◌, ap}
use Rattle.std.specs.List.{find}
use Rattle.crs_shape.specs.inner.KeywordTable.{classes_by, is_root}
use Rattle.crs_shape.proofs.naming.ItemLemmas.{class_of_root-node}
use Rattle.crs_shape.proofs.fitting.class_at_root.Goals as goal

pub returns-in-Node : goal.returns-in-Node
returns-in-Node c = c.root_by.ensures ∙ ap (λ k. find is_root (classes_by k)) c.keyword.ensures ∙ class_of_root-node c.keywords_are_spelled.ensures _ c.in-Node.ensures
