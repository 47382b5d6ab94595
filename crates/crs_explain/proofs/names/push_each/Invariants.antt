use Rattle.std.proofs.Common.{◌≡◌, ◌++◌, drop}
use Rattle.crs_explain.proofs.names.push_each.Given as goal

abbrev pub invariant-loop-name : goal.invariant-loop-name
invariant-loop-name l = l.out ++ drop l.name-index l.names ≡ l.fn.out ++ l.names
