use Rattle.std.proofs.Common.{◌==◌, ap}
use Rattle.std.proofs.lemmas.Nat.Bits.{shr_and_one}
use Rattle.crs_shape.proofs.bit_set.BitSet.has.Goals as goal

pub returns : goal.returns
returns c = ap (λ bit. bit == 1) (shr_and_one c.args.self.bits c.args.bit)
