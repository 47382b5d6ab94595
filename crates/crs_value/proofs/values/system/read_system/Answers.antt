use Rattle.std.proofs.Common.{rules}
use Rattle.crs_value.specs.Reads.{ReadsHead}
use Rattle.crs_value.proofs.found.ArgumentLemmas.{reads-first}
use Rattle.crs_value.proofs.sound.SystemLemmas.{system-tells}
use Rattle.crs_value.proofs.values.system.read_system.Goals as goal

pub invariant_of-result : goal.invariant_of-result
invariant_of-result c =
    system-tells c.slots_count.ensures.least _ c.requires.system c.requires.there.1 _ _ c.requires.sound
    (record { head = reads-first ReadsHead _ _ _ _ c.required-id.ensures.found.0 (search rules); axes = c.in_ok-many_from.ensures; unit = c.in_ok-optional_from.ensures })
