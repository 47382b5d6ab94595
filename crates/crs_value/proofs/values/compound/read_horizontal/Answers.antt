use Rattle.std.proofs.Common.{[], ◌∷◌, arith}
use Rattle.crs_shape.specs.declared.class.Class.TheVariants as class
use Rattle.crs_value.specs.inner.Cursor.{item}
use Rattle.crs_value.proofs.found.ArgumentLemmas.{first-sound, one-there, some-there}
use Rattle.crs_value.proofs.values.compound.read_horizontal.Goals as goal

pub read-requires-clause-sound : goal.read-requires-clause-sound
read-requires-clause-sound c = first-sound _ class.CompoundCrs class.GeodeticCrs _ c.in-Some.id c.requires.sound c.in-Some.ensures

pub read-requires-in-Some-first-clause-sound : goal.read-requires-in-Some-first-clause-sound
read-requires-in-Some-first-clause-sound c = first-sound _ class.CompoundCrs class.GeographicCrs _ c.in-Some-first.id c.requires.sound c.in-Some-first.ensures

pub unwrap-id-requires : goal.unwrap-id-requires
unwrap-id-requires c =
    some-there c.first-3.result (λ none. one-there c.slots_count.ensures.least class.CompoundCrs (class.GeodeticCrs ∷ class.GeographicCrs ∷ class.ProjectedCrs ∷ [])
    (item c.args.node.now) c.requires.sound.shaped (omega arith) (c.in_default.ensures, (c.in_default-first.ensures, (rw none at c.first-3.ensures, tt))))

pub read-requires-2-clause-sound : goal.read-requires-2-clause-sound
read-requires-2-clause-sound c = first-sound _ class.CompoundCrs class.ProjectedCrs _ c.unwrap-id.result c.requires.sound (rw c.unwrap-id.ensures at c.first-3.ensures)
