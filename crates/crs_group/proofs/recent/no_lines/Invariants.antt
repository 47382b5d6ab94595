use Rattle.std.proofs.Common.{◌≡◌, All, None}
use Rattle.crs_group.proofs.recent.no_lines.Given as goal

abbrev pub invariant-loop-place : goal.invariant-loop-place
invariant-loop-place l = All (λ line. line.group ≡ None) l.lines.items
