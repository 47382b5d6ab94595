use Rattle.std.proofs.Common.{◌≡◌, ◌≤◌, length, vec_len, false}
use Rattle.std.specs.Io.KnownBytes.{Consumes}
use Rattle.crs_desk.proofs.runs.reading.read_text.Given as goal

abbrev pub invariant-loop-turn : goal.invariant-loop-turn
invariant-loop-turn g l =
    record {
      room : length l.room ≡ 65536;
      reads : l.source.reads ≡ l.turn;
      taken : l.source.taken ≡ vec_len l.text;
      short : vec_len l.text ≤ 1048576;
      unended : l.source.ended ≡ false;
      within : l.source.past_end ≡ false;
      healthy : l.source.failed ≡ false;
      told : Consumes l.fn.source.remaining l.source.remaining l.text.items;
    }
