use Rattle.std.proofs.Common.{◌≡◌, ◌++◌}
use Rattle.crs_writer.specs.inner.Prelude.{lacking, spellings, commas}
use Rattle.crs_canon.proofs.lacking.append_lacking.Given as goal

abbrev pub invariant-loop-bytes : goal.invariant-loop-bytes
invariant-loop-bytes l =
    l.text.items ++ commas (spellings l.bytes-iterator) ≡ commas (lacking (spellings l.these.keys) (spellings l.others.keys))
