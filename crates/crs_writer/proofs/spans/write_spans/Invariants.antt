use Rattle.std.proofs.Common.{◌≡◌, ◌++◌, drop}
use Rattle.crs_writer.specs.SetText.{commas}
use Rattle.crs_writer.specs.inner.Spans.{AreWithin, texts_at}
use Rattle.crs_writer.proofs.spans.write_spans.Given as goal

abbrev pub invariant-loop-span : goal.invariant-loop-span
invariant-loop-span l =
    AreWithin l.bytes (drop l.span-index l.spans)
    × (l.out.items ++ commas (texts_at l.bytes (drop l.span-index l.spans))
    ≡ l.fn.out.items ++ commas (texts_at l.bytes l.spans))
