use Rattle.crs_shape.proofs.faults.PlaceLemmas.{held-placed, inside-placed, root-placed, text-below}
use Rattle.crs_shape.proofs.laws.fault_is_within.Goals as goal

pub returns : goal.returns
returns c = record {
  inside = inside-placed;
  root = root-placed;
  held = held-placed;
  text = text-below;
}
