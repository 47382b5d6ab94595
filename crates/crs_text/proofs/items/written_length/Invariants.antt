use Rattle.std.proofs.Common.{◌≡◌, ◌+◌, drop}
use Rattle.crs_text.specs.inner.Tree.{AreSquare, bytes_of_rows}
use Rattle.crs_text.proofs.items.written_length.Given as goal

abbrev pub invariant-loop-row : goal.invariant-loop-row
invariant-loop-row l =
    (l.length + bytes_of_rows (drop l.row-index l.rows) ≡ bytes_of_rows l.rows)
    × (AreSquare (drop l.row-index l.rows) → AreSquare l.rows)
