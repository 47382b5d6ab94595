use Rattle.std.proofs.Common.{refl}
use Rattle.std.specs.Hash.DefaultHasher.{finish, initial, round, with_keys, write, write_byte, write_word}
use Rattle.crs_canon.proofs.laws.digests_are_siphash.Goals as goal

pub returns : goal.returns
unfolding finish round with_keys write write_byte write_word initial
returns c = record {
  published = (refl, refl, refl);
  rusts = (refl, refl, refl);
}
