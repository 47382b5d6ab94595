use Rattle.std.proofs.Common.{ap}
use Rattle.crs_text.specs.inner.Prelude.{first_of}
use Rattle.crs_value.proofs.one.RootLemmas.{root-among, spelled-sound}
use Rattle.crs_value.proofs.reading.value.value_of.Goals as goal

pub read_crs-requires-clause-sound : goal.read_crs-requires-clause-sound
read_crs-requires-clause-sound c =
    spelled-sound c.no_fault_is_shape.ensures c.args.items.now _ c.in-Ok.class (ap first_of c.root-id.ensures.root) c.in-Ok.ensures.class c.formed.ensures c.in-Ok.ensures.answer.1

pub read_crs-requires-clause-root : goal.read_crs-requires-clause-root
read_crs-requires-clause-root c = root-among c.args.items.now c.in-Ok.class c.in-Ok.ensures.class
