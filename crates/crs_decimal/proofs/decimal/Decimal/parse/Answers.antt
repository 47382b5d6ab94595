use Rattle.crs_decimal.specs.inner.Split.{parts_of}
use Rattle.crs_decimal.proofs.SplitLemmas.{spells_parts}
use Rattle.crs_decimal.proofs.decimal.Decimal.parse.Goals as goal

pub returns-in-Some : goal.returns-in-Some
returns-in-Some c =
    let bytes = c.args.bytes.now in
    let s = c.in-Some.ensures in
    let h = c.decimal.ensures (parts_of bytes) s.1 in
    (h.0, (parts_of bytes, spells_parts bytes s.0, h.1, h.2))
