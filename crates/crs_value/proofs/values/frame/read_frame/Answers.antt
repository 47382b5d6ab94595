use Rattle.std.proofs.Common.{[], ◌∷◌}
use Rattle.crs_value.specs.inner.Cursor.{item}
use Rattle.crs_value.proofs.found.ArgumentLemmas.{first-sound, one-there, some-there}
use Rattle.crs_value.proofs.values.frame.read_frame.Goals as goal

pub read-requires-clause-sound : goal.read-requires-clause-sound
read-requires-clause-sound c = first-sound _ c.args.node.now.class c.args.frame _ c.in-Some.id c.requires.sound c.in-Some.ensures

pub unwrap-id-requires : goal.unwrap-id-requires
unwrap-id-requires c =
    some-there c.first-2.result (λ none. one-there c.slots_count.ensures.least c.args.node.now.class (c.args.frame ∷ c.args.ensemble ∷ []) (item c.args.node.now)
    c.requires.sound.shaped c.requires.there (c.in_default.ensures, (rw none at c.first-2.ensures, tt)))

pub read-requires-2-clause-sound : goal.read-requires-2-clause-sound
read-requires-2-clause-sound c = first-sound _ c.args.node.now.class c.args.ensemble _ c.unwrap-id.result c.requires.sound (rw c.unwrap-id.ensures at c.first-2.ensures)
