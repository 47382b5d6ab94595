use Rattle.std.proofs.Common.{IsTrue, rules}
use Rattle.crs_same.proofs.WalkedLemmas.{differing, done, same}
use Rattle.crs_same.proofs.found.Found.geoids.Goals as goal
use Rattle.crs_same.proofs.found.Found.geoids.Goals.{then-is_done-via-then-is_done, then-is_done-via-else-is_done+then-same_set}

pub returns-then-is_done : goal.returns-then-is_done
returns-then-is_done c =
    elim c.then-is_done.branch [
      | then-is_done-via-then-is_done w ↦ done (search rules)
      | then-is_done-via-else-is_done+then-same_set w ↦ rw (← c.as_slice-a.ensures, ← c.as_slice-b.ensures) (same (w.same_set.ensures.0 w.if-same_set.true))
    ]

pub returns : goal.returns
returns c =
    rw (← c.as_slice-a.ensures, ← c.as_slice-b.ensures) (
    differing (λ is. let yes : IsTrue c.same_set.result = c.same_set.ensures.1 is in search (rules, yes)) c.alone.ensures)
