use Rattle.std.proofs.Common.{◌≡◌, ◌++◌, drop}
use Rattle.crs_desk.specs.RulesOutput.{marked}
use Rattle.crs_desk.proofs.runs.under.append_marked.Given as goal

abbrev pub invariant-loop-difference : goal.invariant-loop-difference
invariant-loop-difference l =
    l.out.items ++ marked l.fn.how l.fn.after (drop l.difference-index l.fn.before)
    ≡ l.fn.out.items ++ marked l.fn.how l.fn.after l.fn.before
