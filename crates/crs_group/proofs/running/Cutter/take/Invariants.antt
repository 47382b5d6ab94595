use Rattle.std.proofs.Common.{◌≡◌, ◌+◌, ◌≤◌, ◌++◌, ℕ, List, length}
use Rattle.crs_group.specs.inner.GroupReading.{IsCutTo}
use Rattle.crs_group.proofs.running.Cutter.take.Given as goal

abbrev pub invariant-loop-line : goal.invariant-loop-line
invariant-loop-line g l =
    record {
      done : (front : List ℕ) × (l.fn.piece ≡ front ++ l.rest)
          × ((bytes : List ℕ)
          → IsCutTo (g.A.Adding.Form l.fn.way.adding) (g.A.Adding.Share l.fn.way.adding) l.fn.way.named bytes l.fn.self
          → IsCutTo (g.A.Adding.Form l.fn.way.adding) (g.A.Adding.Share l.fn.way.adding) l.fn.way.named (bytes ++ front) l.self);
      lines : l.self.ledger.lines + length l.rest ≤ l.fn.self.ledger.lines + length l.fn.piece;
      small : length l.rest ≤ length l.fn.piece;
      level : l.self.ledger.catalogue.level ≡ l.fn.self.ledger.catalogue.level;
    }

abbrev pub decreases-loop-line : goal.decreases-loop-line
decreases-loop-line g l = length l.rest
