use Rattle.std.proofs.Common.{Some, arith}
use Rattle.crs_value.proofs.walk.WholeNumberLemmas.{digit-read}
use Rattle.crs_value.proofs.reading.node.small_whole.Goals as goal

pub returns : goal.returns
returns c =
    let byte = c.in_ok-byte.byte in
    digit-read c.digits_alone.ensures c.one_form.ensures c.denotes_some.ensures c.same_number_is_equivalence.ensures.symmetric c.args.bytes.now byte (Some c.from.result)
    c.in_ok-byte.ensures (omega arith, (omega arith, omega arith))
