use Rattle.std.proofs.Common.{arith}
use Rattle.std.proofs.lemmas.List.Sums.{prefix_len-le-length}
use Rattle.crs_decimal.specs.inner.Prelude.{is_run_byte}
use Rattle.crs_text.proofs.tokens.LexedLemmas.{lexed_number, flawed_number, flawed_range}
use Rattle.crs_text.proofs.lexing.run.Goals as goal

pub front_of-requires : goal.front_of-requires
front_of-requires c = omega (arith, prefix_len-le-length is_run_byte c.args.left.now, c.length-length.ensures.value)

pub returns-in-Ok : goal.returns-in-Ok
returns-in-Ok c =
    let d = c.in-Ok.ensures.1 in
    lexed_number c.args.left.now c.length-length.result c.length-length.ensures.value c.requires (rw (← c.front_of.ensures) (d.0, d.1, d.2))

pub returns-in-Err-Malformed : goal.returns-in-Err-Malformed
returns-in-Err-Malformed c =
    let f = rw c.front_of.ensures at (rw c.in-Err-Malformed.field-0-is at c.in-Err-Malformed.ensures) in
    rw c.flaw.ensures (flawed_number c.args.left.now c.length-length.result c.length-length.ensures.value c.requires f)

pub returns-in-Err-Range : goal.returns-in-Err-Range
returns-in-Err-Range c =
    let f = rw c.front_of.ensures at (rw c.in-Err-Range.field-0-is at c.in-Err-Range.ensures) in
    rw c.flaw-in-Err-Range.ensures (flawed_range c.args.left.now c.length-length.result c.length-length.ensures.value c.requires f.0 f.1)
