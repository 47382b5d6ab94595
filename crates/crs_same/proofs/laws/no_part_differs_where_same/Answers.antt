use Rattle.crs_same.specs.Parts.{parts_of_crs}
use Rattle.crs_same.specs.SameCrs.{SameCrs}
use Rattle.crs_same.proofs.AllSameLemmas.{all-first, none-found, some-found}
use Rattle.crs_same.proofs.SettledLemmas.{crs-of}
use Rattle.crs_same.proofs.laws.no_part_differs_where_same.Goals as goal

pub returns : goal.returns
unfolding SameCrs
returns c = record {
  none = λ level a b. (none-found (parts_of_crs level a b), all-first (parts_of_crs level a b));
  some = λ level a b sound-a sound-b path. some-found (parts_of_crs level a b) (crs-of level c.one_axis_each.ensures.one a b sound-a sound-b) path;
}
