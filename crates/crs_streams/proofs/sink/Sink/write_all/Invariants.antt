use Rattle.std.proofs.Common.{◌≡◌, ℕ, List, ◌++◌, false, length, true}
use Rattle.std.specs.Io.KnownBytes.{Appends}
use Rattle.crs_streams.proofs.sink.Sink.write_all.Given as goal

abbrev pub invariant-loop-rest : goal.invariant-loop-rest
invariant-loop-rest g l =
    record {
      done : (done : List ℕ) × (l.fn.bytes ≡ done ++ l.rest)
          × Appends l.fn.self.contents l.self.contents done;
      is_used : l.self.used ≡ true;
      past_failure : l.fn.self.failed ≡ false → l.self.past_failure ≡ l.fn.self.past_failure;
      failure : l.self.failed ≡ l.fn.self.failed;
    }

abbrev pub decreases-loop-rest : goal.decreases-loop-rest
decreases-loop-rest g l = length l.rest
