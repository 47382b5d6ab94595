use Rattle.std.proofs.Common.{◌≡◌, drop}
use Rattle.std.specs.List.{find}
use Rattle.crs_shape.specs.inner.KeywordTable.{is_part}
use Rattle.crs_shape.proofs.table.first_part.Given as goal

abbrev pub invariant-loop-class : goal.invariant-loop-class
invariant-loop-class l = find (is_part l.parent) (drop l.class-index l.classes) ≡ find (is_part l.parent) l.classes
