use Rattle.std.proofs.Common.{◌≡◌, ◌++◌}
use Rattle.crs_writer.specs.inner.Members.{spellings}
use Rattle.crs_writer.specs.SetText.{commas}
use Rattle.crs_writer.proofs.set.write_sorted.Given as goal

abbrev pub invariant-loop-bytes : goal.invariant-loop-bytes
invariant-loop-bytes l =
    l.out.items ++ commas (spellings l.bytes-iterator) ≡ l.fn.out.items ++ commas (spellings l.sorted.keys)
