use Rattle.std.proofs.Common.{◌≡◌, ◌++◌}
use Rattle.std.specs.List.{flat_map}
use Rattle.bstr.specs.Text.{lines_of}
use Rattle.crs_desk.proofs.PrefixedLines.{behind_prefix}
use Rattle.crs_desk.proofs.runs.line_output.prefix_lines.Given as goal

abbrev pub invariant-loop-line : goal.invariant-loop-line
invariant-loop-line l =
    l.lines.items ++ flat_map (behind_prefix l.prefix) l.line-iterator ≡ flat_map (behind_prefix l.prefix) (lines_of l.fn.bytes.items)
