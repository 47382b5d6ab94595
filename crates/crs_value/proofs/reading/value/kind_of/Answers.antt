use Rattle.std.proofs.Common.{ap}
use Rattle.crs_text.specs.inner.Prelude.{first_of}
use Rattle.crs_value.proofs.one.RootLemmas.{root-among, spelled-sound}
use Rattle.crs_value.proofs.reading.value.kind_of.Goals as goal

pub kind_of_root-requires-clause-sound : goal.kind_of_root-requires-clause-sound
kind_of_root-requires-clause-sound c =
    spelled-sound c.no_fault_is_shape.ensures c.args.items.now _ c.in_ok-class.class (ap first_of c.root-id.ensures.root) c.in_ok-class.ensures.class c.formed.ensures c.in_ok-class.ensures.answer.1

pub kind_of_root-requires-clause-root : goal.kind_of_root-requires-clause-root
kind_of_root-requires-clause-root c = root-among c.args.items.now c.in_ok-class.class c.in_ok-class.ensures.class
