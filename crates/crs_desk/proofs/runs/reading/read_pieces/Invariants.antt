use Rattle.std.proofs.Common.{◌≡◌, ◌≤◌, ℕ, List, length, false}
use Rattle.crs_streams.specs.inner.Prelude.{HasGiven}
use Rattle.crs_desk.specs.inner.Pieces.{IsHeld}
use Rattle.crs_desk.proofs.runs.reading.read_pieces.Given as goal

abbrev pub invariant-loop-turn : goal.invariant-loop-turn
invariant-loop-turn g l =
    record {
      room : length l.room ≡ 65536;
      reads : l.source.reads ≡ l.turn;
      taken : l.source.taken ≡ l.taken;
      short : l.taken ≤ 1048576;
      unended : l.source.ended ≡ false;
      within : l.source.past_end ≡ false;
      healthy : l.source.failed ≡ false;
      held : (text : List ℕ) × HasGiven l.fn.source l.source text × IsHeld l.refused text l.feeder;
    }
