use Rattle.std.proofs.Common.{sym}
use Rattle.crs_shape.proofs.faults.FitLemmas.{root-is_of}
use Rattle.crs_shape.proofs.naming.ItemLemmas.{class_in-node, is_of-node}
use Rattle.crs_shape.proofs.laws.keywords_name_classes.Goals as goal

pub returns : goal.returns
returns c = record {
  named = λ parent item node. sym (class_in-node c.keywords_are_spelled.ensures parent item (sym node));
  own = λ class item node. sym (is_of-node c.keywords_are_spelled.ensures class item (sym node));
  root = λ class item root. root-is_of class item root;
}
