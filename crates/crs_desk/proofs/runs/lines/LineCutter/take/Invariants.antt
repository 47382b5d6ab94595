use Rattle.std.proofs.Common.{◌≡◌, ◌+◌, ◌≤◌, ◌++◌, ℕ, List, length}
use Rattle.crs_streams.specs.inner.Prelude.{SinkState}
use Rattle.crs_desk.specs.inner.LineCutting.{IsLinesCut}
use Rattle.crs_desk.proofs.runs.lines.LineCutter.take.Given as goal

abbrev pub invariant-loop-line : goal.invariant-loop-line
invariant-loop-line g l =
    record {
      done : (front : List ℕ) × (l.fn.piece ≡ front ++ l.rest)
          × ((before : SinkState) (bytes : List ℕ)
          → IsLinesCut (g.C.TextCommand.Output l.fn.command) before bytes l.fn.self l.fn.sink
          → IsLinesCut (g.C.TextCommand.Output l.fn.command) before (bytes ++ front) l.self l.sink);
      lines : l.self.lines + length l.rest ≤ l.fn.self.lines + length l.fn.piece;
      small : length l.rest ≤ length l.fn.piece;
    }

abbrev pub decreases-loop-line : goal.decreases-loop-line
decreases-loop-line g l = length l.rest
