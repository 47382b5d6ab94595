use Rattle.crs_value.proofs.found.ArgumentLemmas.{first-sound}
use Rattle.crs_value.proofs.reading.cursor.Cursor.optional_text_from.Goals as goal

pub text-requires-clause-sound : goal.text-requires-clause-sound
text-requires-clause-sound c = first-sound _ _ _ _ c.in-Some.id c.requires.sound (rw c.in-Some.is at c.requires.found)
