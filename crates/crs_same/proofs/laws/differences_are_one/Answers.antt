use Rattle.crs_same.specs.Parts.{parts_of_crs}
use Rattle.crs_same.proofs.DifferenceLemmas.{one-list}
use Rattle.crs_same.proofs.SettledLemmas.{crs-of}
use Rattle.crs_same.proofs.laws.differences_are_one.Goals as goal

pub returns : goal.returns
returns c level a b sound-a sound-b =
    one-list (parts_of_crs level a b) (crs-of level c.one_axis_each.ensures.one a b sound-a sound-b)
