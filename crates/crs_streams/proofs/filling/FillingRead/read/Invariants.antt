use Rattle.std.proofs.Common.{◌≡◌, ◌-◌, ◌≤◌, None, false, length, take}
use Rattle.std.specs.Io.KnownBytes.{Consumes}
use Rattle.crs_streams.proofs.filling.FillingRead.read.Given as goal

abbrev pub invariant-loop-filled : goal.invariant-loop-filled
invariant-loop-filled g l =
    record {
      room : length l.buf ≡ length l.fn.buf;
      fits : l.filled ≤ length l.buf;
      unended : l.self-inside.ended ≡ false;
      healthy : l.self-inside.failure ≡ None;
      was : l.fn.self.fails_next ≡ false;
      were : l.fn.self.ended ≡ false;
      taken : Consumes l.fn.self.remaining (g.R.Read.remaining l.self-inside.reader) (take l.filled l.buf);
    }

abbrev pub decreases-loop-filled : goal.decreases-loop-filled
decreases-loop-filled g l = length l.buf - l.filled
