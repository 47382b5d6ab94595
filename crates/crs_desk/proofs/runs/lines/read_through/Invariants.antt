use Rattle.std.proofs.Common.{◌≡◌, [], ℕ, List, length, false}
use Rattle.crs_streams.specs.inner.Prelude.{HasGiven}
use Rattle.crs_desk.specs.inner.LineCutting.{IsLinesCut}
use Rattle.crs_desk.proofs.runs.lines.read_through.Given as goal

abbrev pub invariant-loop-turn : goal.invariant-loop-turn
invariant-loop-turn g l =
    record {
      room : length l.room ≡ 65536;
      reads : l.source.reads ≡ l.turn;
      unended : l.source.ended ≡ false;
      within : l.source.past_end ≡ false;
      healthy : l.source.failed ≡ false;
      sent : l.cutter.writer.out ≡ [];
      cut : (bytes : List ℕ) × HasGiven l.fn.source l.source bytes
          × IsLinesCut (g.C.TextCommand.Output l.fn.command) l.fn.sink bytes l.cutter l.sink;
    }
