use Rattle.std.proofs.Common.{refl}
use Rattle.crs_value.proofs.found.ArgumentLemmas.{first-sound}
use Rattle.crs_value.proofs.reading.cursor.Cursor.optional_from.Goals as goal

pub read-requires : goal.read-requires
read-requires g c κs = ((refl, tt), (c.requires.suits, first-sound _ _ _ _ c.in-Some.id c.requires.sound (rw c.in-Some.is at c.requires.found)))
