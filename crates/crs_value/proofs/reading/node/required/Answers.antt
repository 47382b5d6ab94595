use Rattle.crs_value.proofs.found.ArgumentLemmas.{not-none, first-sound, first-shaped}
use Rattle.crs_value.proofs.reading.node.required.Goals as goal

pub unreachable-requires : goal.unreachable-requires
unreachable-requires c = not-none c.slots_count.ensures.least c.args.parent c.args.class _ c.requires.shaped c.requires.enough c.in-None.ensures

pub returns-clause-sound : goal.returns-clause-sound
returns-clause-sound c = λ sound. first-sound c.args.items.now c.args.parent c.args.class _ c.in-Some.found sound c.in-Some.ensures

pub returns-clause-shaped : goal.returns-clause-shaped
returns-clause-shaped c = first-shaped c.args.items.now c.args.parent c.args.class _ c.in-Some.found c.requires.shaped c.in-Some.ensures
