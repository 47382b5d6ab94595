use Rattle.std.proofs.Common.{◌≡◌, ◌+◌, ◌-◌, ◌++◌, length}
use Rattle.crs_text.specs.inner.Prelude.{End, others_text}
use Rattle.crs_value.specs.inner.Prelude.{SystemParts}
use Rattle.crs_normal.specs.inner.Prelude.{each, axes_from, item_axis}
use Rattle.crs_writer.proofs.spelling.system.write_axes.Given as goal

abbrev pub invariant-loop-index : goal.invariant-loop-index
invariant-loop-index g l =
    (s : SystemParts) → s.system_type ≡ l.fn.system_type → g.S.SystemPart.Says l.fn.system s →
    l.out.items ++ others_text (each item_axis (axes_from l.fn.level s (l.index + 1) (length s.axes - l.index)) End)
    ≡ l.fn.out.items ++ others_text (each item_axis (axes_from l.fn.level s 1 (length s.axes)) End)
