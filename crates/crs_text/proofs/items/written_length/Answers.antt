use Rattle.std.proofs.Common.{◌<◌, length, rules}
use Rattle.crs_text.proofs.tokens.LaidLemmas.{beside-fits}
use Rattle.crs_text.proofs.items.written_length.Goals as goal

pub bytes_beside-requires : goal.bytes_beside-requires
bytes_beside-requires c =
    let lt : c.loop-row.row-index < length c.args.rows.now = search rules in
    beside-fits c.args.rows.now c.loop-row.row-index c.loop-row.length _ _ lt c.loop-row.invariant.0 c.requires
