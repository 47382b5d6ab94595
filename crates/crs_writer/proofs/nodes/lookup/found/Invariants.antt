use Rattle.std.proofs.Common.{◌≡◌}
use Rattle.crs_text.specs.inner.Prelude.{count}
use Rattle.crs_value.specs.inner.Prelude.{ahead, Holds, those}
use Rattle.crs_writer.proofs.nodes.lookup.found.Given as goal

abbrev pub invariant-loop-at : goal.invariant-loop-at
invariant-loop-at l = record {
  same : those l.fn.parent l.fn.class (ahead l.items l.at) ≡ those l.fn.parent l.fn.class (ahead l.items l.initial.at);
  has : Holds l.items l.at;
}

abbrev pub decreases-loop-at : goal.decreases-loop-at
decreases-loop-at l = count (ahead l.items l.at)
