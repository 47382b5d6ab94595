use Rattle.std.proofs.Common.{length}
use Rattle.crs_text.specs.inner.Prelude.{arguments}
use Rattle.crs_value.specs.inner.Cursor.{item}
use Rattle.crs_value.specs.Reading.{those}
use Rattle.crs_value.specs.inner.Arguments.{from_found}
use Rattle.crs_value.proofs.found.ArgumentLemmas.{Going}
use Rattle.crs_value.proofs.reading.cursor.Cursor.many_from.Given as goal

abbrev pub invariant-loop-at : goal.invariant-loop-at
invariant-loop-at g l = Going (g.T.FromNode.Reads l.class) l.items l.self.class l.class (those l.self.class l.class (arguments (item l.self))) l.members.items l.at

abbrev pub decreases-loop-at : goal.decreases-loop-at
decreases-loop-at g l = length (from_found l.items l.self.class l.class l.at)
