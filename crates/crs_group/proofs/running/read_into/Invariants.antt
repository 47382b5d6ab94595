use Rattle.std.proofs.Common.{◌≡◌, ℕ, List, length, false}
use Rattle.crs_group.specs.inner.GroupReading.{IsCutTo}
use Rattle.crs_streams.specs.inner.Prelude.{HasGiven}
use Rattle.crs_group.proofs.running.read_into.Given as goal

abbrev pub invariant-loop-turn : goal.invariant-loop-turn
invariant-loop-turn g l =
    record {
      room : length l.room ≡ 65536;
      reads : l.source.reads ≡ l.turn;
      unended : l.source.ended ≡ false;
      within : l.source.past_end ≡ false;
      healthy : l.source.failed ≡ false;
      cut : (bytes : List ℕ) × HasGiven l.fn.source l.source bytes
          × IsCutTo (g.A.Adding.Form l.fn.way.adding) (g.A.Adding.Share l.fn.way.adding) l.fn.way.named bytes l.cutter;
      level : l.cutter.ledger.catalogue.level ≡ l.fn.cutter.ledger.catalogue.level;
    }
